-- `replay_affinity::choices::same_pairs` meets its contract: the loop keeps what has been done equal to its part of the whole.
use Rattle.std.proofs.Common.{◌-◌, ◌≤◌}
use Rattle.replay_affinity.proofs.choices.same_pairs.Given as goal

abbrev pub invariant-loop-t : goal.invariant-loop-t
invariant-loop-t l = l.t ≤ l.k
