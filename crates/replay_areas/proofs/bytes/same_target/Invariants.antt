-- `replay_areas::bytes::same_target` meets its contract: the loop keeps what has been done equal to its part of the whole; by `every-none`, `every-next`, `every-no`, `every-done`.
use Rattle.std.proofs.Common.{◌≡◌, ◌≤◌, true, eqb}
use Rattle.replay_areas.specs.Said.{list_byte, listed_byte}
use Rattle.laws.specs.Loops.{every}
use Rattle.replay_areas.proofs.bytes.same_target.Given as goal

abbrev pub invariant-loop-i : goal.invariant-loop-i
invariant-loop-i l = (every (λ t. eqb (listed_byte l.target l.m t) (list_byte l.list l.a t)) l.i ≡ true) × (l.i ≤ l.end)
