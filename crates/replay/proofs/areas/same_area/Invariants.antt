-- `replay::areas::same_area` meets its contract: the loop keeps what has been done equal to its part of the whole; by `value-passed`, `value-right`,
-- `value-wrong`, `area-before`, `area-short`, `area-is` and others.
use Rattle.replay.specs.Areas.{right_value}
use Rattle.laws.specs.Loops.{every}
use Rattle.std.proofs.Common.{◌≡◌, ◌≤◌, true, length}
use Rattle.replay.proofs.areas.same_area.Given as goal

abbrev pub invariant-loop-i : goal.invariant-loop-i
invariant-loop-i l = (l.from ≤ l.i) × (l.i ≤ length l.area) × (every (right_value l.area l.from l.m l.list l.a) l.i ≡ true)
