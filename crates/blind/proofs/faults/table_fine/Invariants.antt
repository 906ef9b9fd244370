-- `blind::faults::table_fine` meets its contract: the loop keeps what has been done equal to its part of the whole; by `every-none`, `every-next`, `every-no`, `every-done`.
use mathlib.Core.Path.{◌≡◌}
use mathlib.Core.Bool.{true}
use Prim.Native.Nat.{◌≤◌}
use Rattle.laws.specs.Loops.{every}
use Rattle.laws.specs.Area.{at}
use Rattle.elementary.specs.Limits.{in_domain}
use Rattle.blind.proofs.faults.table_fine.Given as goal

abbrev pub invariant-loop-i : goal.invariant-loop-i
invariant-loop-i l = (l.i ≤ l.m) × (every (λ i. in_domain (at l.table i)) l.i ≡ true)
