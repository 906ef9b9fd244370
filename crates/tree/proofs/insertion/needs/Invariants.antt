-- What the loop of `tree::insertion::needs` holds on to, and the number that falls: the nodes that may yet be met.
use Rattle.tree_node.specs.Arena.{nodes_of}
use Rattle.tree.proofs.Descends.{Probes, probes_left}
use Rattle.tree.proofs.insertion.needs.Given as goal

abbrev pub invariant-loop-p : goal.invariant-loop-p
invariant-loop-p l = Probes l.positions l.used l.j l.c (nodes_of l.cells) l.p

abbrev pub decreases-loop-p : goal.decreases-loop-p
decreases-loop-p l = probes_left l.used l.p
