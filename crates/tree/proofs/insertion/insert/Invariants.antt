-- What the loop of `tree::insertion::insert` holds on to, and the number that falls: the levels that may yet be gone down.
use Rattle.tree_node.specs.Arena.{nodes_of}
use Rattle.tree.proofs.Enters.{Entered, levels_left}
use Rattle.tree.proofs.insertion.insert.Given as goal

abbrev pub invariant-loop-w : goal.invariant-loop-w
invariant-loop-w l = Entered l.positions l.n l.used l.j l.c (nodes_of l.fn.cells) l.w (nodes_of l.cells)

abbrev pub decreases-loop-w : goal.decreases-loop-w
decreases-loop-w l = levels_left l.positions l.n l.used l.j l.c (nodes_of l.fn.cells) l.w
