-- `replay::areas::same_numbers` meets its contract: the loop keeps what has been done equal to its part of the whole; by `number-right`, `number-wrong`,
-- `numbers-short`, `numbers-are`, `every-none`, `every-next` and others.
use Rattle.replay.specs.Areas.{right_number}
use Rattle.laws.specs.Loops.{every}
use Rattle.std.proofs.Common.{◌≡◌, ◌≤◌, true, length}
use Rattle.replay.proofs.areas.same_numbers.Given as goal

abbrev pub invariant-loop-i : goal.invariant-loop-i
invariant-loop-i l = (l.i ≤ length l.area) × (every (right_number l.area l.m l.list l.a) l.i ≡ true)
