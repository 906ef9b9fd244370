-- `replay_areas::values::same_values` meets its contract: the loop keeps what has been done equal to its part of the whole; by `every-none`, `every-next`, `every-no`, `every-done`.
use Rattle.std.proofs.Common.{◌≡◌, ◌≤◌, true, eqb, length}
use Rattle.laws.specs.Loops.{every}
use Rattle.laws.specs.Area.{num}
use Rattle.replay.specs.Areas.{wanted_at}
use Rattle.replay_areas.proofs.values.same_values.Given as goal

abbrev pub invariant-loop-i : goal.invariant-loop-i
invariant-loop-i l = (every (λ t. eqb (num l.area t) (wanted_at l.list l.a l.m t 0x4000000000000000)) l.i ≡ true) × (l.i ≤ length l.area)
