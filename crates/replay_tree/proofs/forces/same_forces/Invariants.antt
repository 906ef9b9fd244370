-- `same_forces`: what is well formed may be walked through, for every point and angle. Assumes nothing.
use Rattle.std.proofs.Common.{◌*◌, ◌≤◌}
use Rattle.replay_arena.specs.Fronts.{Walkable}
use Rattle.replay_tree.proofs.forces.same_forces.Given as goal

abbrev pub invariant-loop-k : goal.invariant-loop-k
invariant-loop-k l = (l.k ≤ 4 * l.n) × Walkable 512 l.used l.c l.cells
