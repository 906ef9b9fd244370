-- `replay_forces::moves::same_moves` meets its contract: the loop keeps what has been done equal to its part of the whole.
use Prim.Native.Nat.{◌≤◌}
use Rattle.replay_forces.proofs.moves.same_moves.Given as goal

abbrev pub invariant-loop-e : goal.invariant-loop-e
invariant-loop-e l = l.e ≤ l.m
