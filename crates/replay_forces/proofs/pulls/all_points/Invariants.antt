-- `all_points`: what is well formed may be walked through, for every point. Assumes nothing.
use mathlib.Core.Path.{◌≡◌}
use lib.ListN.{length}
use Prim.Native.Nat.{◌≤◌}
use Rattle.replay_arena.specs.Fronts.{Walkable}
use Rattle.replay_forces.proofs.pulls.all_points.Given as goal

abbrev pub invariant-loop-i : goal.invariant-loop-i
invariant-loop-i l = (length l.forces ≡ length l.initial.forces) × (l.i ≤ l.map.n) × Walkable 512 l.used l.map.c l.cells
