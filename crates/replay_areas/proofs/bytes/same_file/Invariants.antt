-- `replay_areas::bytes::same_file` meets its contract: the loop keeps what has been done equal to its part of the whole; by `every-none`, `every-next`, `every-no`, `every-done`.
use Rattle.std.proofs.Common.{◌≡◌, ◌≤◌, true, eqb, length}
use Rattle.laws.specs.Area.{num}
use Rattle.replay_areas.specs.Said.{listed_byte}
use Rattle.laws.specs.Loops.{every}
use Rattle.replay_areas.proofs.bytes.same_file.Given as goal

abbrev pub invariant-loop-i : goal.invariant-loop-i
invariant-loop-i l = (every (λ t. eqb (num l.file t) (listed_byte l.target (length l.file) t)) l.i ≡ true) × (l.i ≤ l.m)
