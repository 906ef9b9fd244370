-- What the loop of `tree::wellformed::tree_ok` holds on to: the nodes before the next one are well formed.
use Rattle.tree_node.specs.Arena.{nodes_of}
use Rattle.laws.proofs.First.{Seeks}
use Rattle.tree.specs.Insert.{tree}
use Rattle.tree.specs.Contents.{faulty}
use Rattle.tree.proofs.wellformed.tree_ok.Given as goal

abbrev pub invariant-loop-i : goal.invariant-loop-i
invariant-loop-i l = Seeks (faulty l.n l.c (tree l.used (nodes_of l.cells))) l.used l.i
