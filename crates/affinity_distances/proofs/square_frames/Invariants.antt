-- `near::distances::square_frames` meets its contract: i squares are written. Assumes nothing.
use mathlib.Core.Path.{◌≡◌}
use Prim.Native.Nat.{◌-◌}
use lib.ListN.{length}
use Rattle.laws.proofs.Loops.{Loops}
use Rattle.affinity_distances.specs.Distances.{square_step}
use Rattle.affinity_distances.proofs.square_frames.Given as goal

abbrev pub invariant-loop-i : goal.invariant-loop-i
invariant-loop-i l = (length l.squares ≡ length l.initial.squares) × Loops (square_step l.table l.f) l.n l.initial.squares l.i l.squares
