-- `replay_affinity::joins::same_links` meets its contract: the loop keeps what has been done equal to its part of the whole.
use Rattle.std.proofs.Common.{◌-◌, ◌≤◌}
use Rattle.replay_affinity.proofs.joins.same_links.Given as goal

abbrev pub invariant-loop-p : goal.invariant-loop-p
invariant-loop-p l = l.p ≤ l.m
