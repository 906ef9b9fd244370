-- What the loop of `tree_walk::deeper` holds between two turns, with 256 levels, and the number that falls: what is pending weighs less after each turn.
-- A walk calls itself for children that lie further on, so less of the used cells is left to it.
use Prim.Native.Nat.{◌-◌}
use Rattle.tree_walk.proofs.Walked.{load, over-cells}
use Rattle.tree_walk.proofs.Pending.{pending, Going}
use Rattle.tree_walk.proofs.+deeper.Given as goal

abbrev pub decreases-deeper : goal.decreases-deeper
decreases-deeper l = l.used - l.from

abbrev pub invariant-loop-s : goal.invariant-loop-s
invariant-loop-s l = Going 256 l.used l.eye l.cells l.from (over-cells l.used l.eye l.cells l.from (l.to - l.from) l.fn.acc) l.stack l.s

abbrev pub decreases-loop-s : goal.decreases-loop-s
decreases-loop-s l = load l.used (pending 256 l.stack l.s)
