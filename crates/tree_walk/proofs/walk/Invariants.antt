-- What the loop of `tree_walk::walk` holds between two turns, with 32 levels, and the number that falls: what is pending weighs less after each turn.
use Prim.Native.Nat.{◌-◌}
use Rattle.tree_walk.proofs.Walked.{load, over-cells}
use Rattle.tree_walk.proofs.Pending.{pending, Going}
use Rattle.tree_walk.proofs.walk.Given as goal

abbrev pub invariant-loop-s : goal.invariant-loop-s
invariant-loop-s l = Going 32 l.used l.eye l.cells l.from (over-cells l.used l.eye l.cells l.from (l.to - l.from) l.fn.acc) l.stack l.s

abbrev pub decreases-loop-s : goal.decreases-loop-s
decreases-loop-s l = load l.used (pending 32 l.stack l.s)
