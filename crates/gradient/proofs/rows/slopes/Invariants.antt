-- `gradient::rows::slopes` meets its contract: the loop keeps `Loops`; by `loop-start`, `loop-next`, `loop-done`.
use Rattle.gradient.specs.Exact.{slope_step}
use Rattle.laws.proofs.Loops.{Loops}
use mathlib.Core.Path.{◌≡◌}
use lib.ListN.{length}
use Rattle.gradient.proofs.rows.slopes.Given as goal

abbrev pub invariant-loop-d : goal.invariant-loop-d
invariant-loop-d l = (length l.forces ≡ length l.initial.forces) × Loops (slope_step l.x l.positions l.a) l.c l.initial.forces l.d l.forces
