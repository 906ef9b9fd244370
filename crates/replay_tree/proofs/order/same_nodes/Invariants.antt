-- `same_nodes`: its loop ends, and the stack keeps its length. Assumes nothing.
use Rattle.std.proofs.Common.{◌≡◌, ◌≤◌, length}
use Rattle.replay_tree.proofs.order.same_nodes.Given as goal

abbrev pub invariant-loop-k : goal.invariant-loop-k
invariant-loop-k l = (length l.stack ≡ length l.initial.stack) × (l.k ≤ l.count)
