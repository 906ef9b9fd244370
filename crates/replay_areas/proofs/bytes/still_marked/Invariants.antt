-- `replay_areas::bytes::still_marked` meets its contract: the loop keeps what has been done equal to its part of the whole; by `every-none`, `every-next`, `every-no`, `every-done`.
use Rattle.std.proofs.Common.{◌≡◌, ◌≤◌, true, ◌||◌, eqb, ltb}
use Rattle.replay_areas.specs.Said.{byte_mark}
use Rattle.laws.specs.Area.{num}
use Rattle.laws.specs.Loops.{every}
use Rattle.replay_areas.proofs.bytes.still_marked.Given as goal

abbrev pub invariant-loop-i : goal.invariant-loop-i
invariant-loop-i l = (every (λ t. ltb t l.m || eqb (num l.target t) (byte_mark t)) l.i ≡ true) × (l.i ≤ 1408)
