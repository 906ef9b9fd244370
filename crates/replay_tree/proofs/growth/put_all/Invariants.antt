-- `put_all`: its loop ends. Assumes nothing.
use Rattle.std.proofs.Common.{◌≤◌}
use Rattle.replay_tree.proofs.growth.put_all.Given as goal

abbrev pub invariant-loop-j : goal.invariant-loop-j
invariant-loop-j l = l.j ≤ l.n
