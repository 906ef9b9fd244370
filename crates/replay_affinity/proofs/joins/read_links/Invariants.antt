-- `replay_affinity::joins::read_links` meets its contract: the loop keeps what has been done equal to its part of the whole.
use Rattle.std.proofs.Common.{◌≡◌, ◌-◌, ◌≤◌, length}
use Rattle.replay_affinity.proofs.joins.read_links.Given as goal

abbrev pub invariant-loop-p : goal.invariant-loop-p
invariant-loop-p l = (length l.weights ≡ length l.initial.weights) × (length l.indices ≡ length l.initial.indices) × (l.p ≤ l.m)
