-- `hand_out::is_calm_along` meets its contract: the loop keeps what has been done equal to its part of the whole; by `every-none`, `every-next`, `every-no`, `every-done`.
use Rattle.elementary.specs.Limits.{calm}
use Rattle.laws.specs.Area.{at}
use Rattle.laws.specs.Loops.{every}
use mathlib.Core.Path.{◌≡◌}
use mathlib.Core.Bool.{true}
use Prim.Native.Nat.{◌≤◌}
use Rattle.hand_out.proofs.is_calm_along.Given as goal

abbrev pub invariant-loop-i : goal.invariant-loop-i
invariant-loop-i l = (l.i ≤ l.n) × (every (λ j. calm (at l.y j)) l.i ≡ true)
