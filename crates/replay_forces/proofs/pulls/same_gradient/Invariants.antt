-- `replay_forces::pulls::same_gradient` meets its contract: the loop keeps what has been done equal to its part of the whole.
use Prim.Native.Nat.{◌≤◌}
use Rattle.replay_forces.proofs.pulls.same_gradient.Given as goal

abbrev pub invariant-loop-e : goal.invariant-loop-e
invariant-loop-e l = l.e ≤ l.m
