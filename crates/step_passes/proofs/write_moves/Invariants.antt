-- `step_passes::write_moves` meets its contract: the loop keeps `Written`; by `component-in`, `written_start`, `written_next`, `written-done`.
use mathlib.Core.Path.{◌≡◌}
use Rattle.step_passes.proofs.Laws.{Written}
use Rattle.step_passes.specs.Passes.{paced}
use lib.ListN.{length}
use Prim.Native.Nat.{◌*◌}
use Rattle.step_passes.proofs.write_moves.Given as goal

abbrev pub invariant-loop-e : goal.invariant-loop-e
invariant-loop-e l = (length l.positions ≡ length l.initial.positions) ×
    (length l.increments ≡ length l.initial.increments) × (length l.gains ≡ length l.initial.gains) ×
    Written l.means (paced l.pace l.c l.forces l.initial.positions l.initial.increments l.initial.gains) l.c (l.n * l.c) l.e l.positions l.increments l.gains
