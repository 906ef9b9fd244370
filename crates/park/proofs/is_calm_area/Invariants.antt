-- `park::is_calm_area` meets its contract: the loop keeps what has been done equal to its part of the whole; by `every-none`, `every-next`, `every-no`, `every-done`.
use Rattle.elementary.specs.Limits.{calm}
use Rattle.laws.specs.Area.{num, bits}
use Rattle.laws.specs.Loops.{every}
use mathlib.Core.Path.{◌≡◌}
use mathlib.Core.Bool.{true}
use Prim.Native.Nat.{◌≤◌, ◌-◌}
use Rattle.park.proofs.is_calm_area.Given as goal

abbrev pub invariant-loop-i : goal.invariant-loop-i
invariant-loop-i l = (l.i ≤ l.m) × (every (λ j. calm (bits (num l.area j))) l.i ≡ true)
