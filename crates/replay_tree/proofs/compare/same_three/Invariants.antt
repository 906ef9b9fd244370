-- `replay_tree::compare::same_three` meets its contract: the loop keeps what has been done equal to its part of the whole.
use Rattle.std.proofs.Common.{◌≤◌}
use Rattle.replay_tree.proofs.compare.same_three.Given as goal

abbrev pub invariant-loop-d : goal.invariant-loop-d
invariant-loop-d l = l.d ≤ 3
