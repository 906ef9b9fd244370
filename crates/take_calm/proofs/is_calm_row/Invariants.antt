-- `take_calm::is_calm_row` meets its contract: the loop keeps what has been done equal to its part of the whole; by `every-none`, `every-next`, `every-no`, `every-done`.
use Rattle.elementary.specs.Limits.{calm}
use Rattle.laws.specs.Loops.{every}
use Rattle.laws.specs.Area.{at}
use lib.Ieee.{binary64, sub}
use mathlib.Core.Bool.{true}
use mathlib.Core.Path.{◌≡◌}
use Prim.Native.Nat.{◌+◌, ◌≤◌}
use Rattle.take_calm.proofs.is_calm_row.Given as goal

abbrev pub invariant-loop-d : goal.invariant-loop-d
invariant-loop-d l = (every (λ i. calm (sub binary64 (at l.positions (l.a + i)) (at l.means i))) l.d ≡ true) × (l.d ≤ l.c)
