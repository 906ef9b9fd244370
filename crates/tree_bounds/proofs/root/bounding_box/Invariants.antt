-- What the loop of `tree_bounds::root::bounding_box` holds on to: the first d components are there.
use Rattle.laws.proofs.Loops.{Loops}
use Rattle.tree_node.specs.Node.{zeros3}
use Rattle.tree_bounds.specs.Bounds.{middle_step, reach_step}
use Rattle.tree_bounds.proofs.root.bounding_box.Given as goal

abbrev pub invariant-loop-d : goal.invariant-loop-d
invariant-loop-d l = record {
  centres : Loops (middle_step l.positions l.n l.c) l.c zeros3 l.d l.centre;
  halves : Loops (reach_step l.positions l.n l.c) l.c zeros3 l.d l.half;
}
