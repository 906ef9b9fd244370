-- `prepare::all_in` meets its contract: the loop keeps what has been done equal to its part of the whole; by `every-none`, `every-next`, `every-no`, `every-done`.
use Rattle.elementary.specs.Limits.{in_domain}
use Rattle.laws.specs.Area.{at}
use Rattle.laws.specs.Loops.{every}
use Prim.Native.Nat.{◌≤◌}
use mathlib.Core.Bool.{true}
use mathlib.Core.Path.{◌≡◌}
use Rattle.prepare.proofs.all_in.Given as goal

abbrev pub invariant-loop-i : goal.invariant-loop-i
invariant-loop-i l = (l.i ≤ l.m) × (every (λ k. in_domain (at l.t k)) l.i ≡ true)
