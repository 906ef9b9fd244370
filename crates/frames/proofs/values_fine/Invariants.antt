-- `frames::values_fine` meets its contract: the loop keeps what has been done equal to its part of the whole; by `every-none`, `every-next`, `every-no`, `every-done`.
use Prim.Native.Nat.{◌+◌, ◌*◌, ◌≤◌}
use mathlib.Core.Bool.{true}
use mathlib.Core.Path.{◌≡◌}
use Rattle.laws.specs.Loops.{every}
use Rattle.elementary.specs.Limits.{in_domain}
use Rattle.little.specs.Little.{value_at}
use Rattle.frames.proofs.values_fine.Given as goal

abbrev pub invariant-loop-k : goal.invariant-loop-k
invariant-loop-k l = (l.k ≤ 8) × (every (λ j. in_domain (value_at l.file (l.a + 8 + 8 * j))) l.k ≡ true)
