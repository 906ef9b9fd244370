-- `replay_forces::links::below` meets its contract: the loop keeps `Below`; by `below_none`, `below_next`.
use Prim.Native.Nat.{◌≤◌}
use Rattle.gradient.specs.Forces.{Below}
use Rattle.replay_forces.proofs.links.below.Given as goal

abbrev pub invariant-loop-k : goal.invariant-loop-k
invariant-loop-k l = (l.k ≤ l.m) × Below l.n l.k l.indices
