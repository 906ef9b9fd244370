-- What the loop of `tree::insertion::subdivide` holds on to: the first b children are made.
use Rattle.laws.proofs.Loops.{Loops}
use Rattle.tree_node.specs.Arena.{nodes_of}
use Rattle.tree.specs.Insert.{child_step}
use Rattle.tree.proofs.insertion.subdivide.Given as goal

abbrev pub invariant-loop-b : goal.invariant-loop-b
invariant-loop-b l = Loops (child_step l.s.c l.s.out.node l.s.out.old l.s.q) l.s.out.fresh (nodes_of l.fn.cells) l.b (nodes_of l.cells)
