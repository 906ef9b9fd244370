-- `tree_bounds::root::bounding_box` meets its contract: the laws of its loop.
use Rattle.laws.proofs.Loops.{loop-start, loop-next, loop-done}
use Rattle.tree_node.specs.Node.{zeros3}
use Rattle.tree_bounds.specs.Bounds.{middle_step, reach_step, box_of}
use Rattle.tree_bounds.proofs.root.bounding_box.Goals as goal

pub loop-d-init : goal.loop-d-init
loop-d-init c = record {
  centres = loop-start (middle_step c.args.positions.now c.args.n c.args.c) c.args.c zeros3;
  halves = loop-start (reach_step c.args.positions.now c.args.n c.args.c) c.args.c zeros3;
}

pub loop-d-preserved : goal.loop-d-preserved
loop-d-preserved c = record {
  centres = rw (c.middle.ensures, c.span-s.ensures) (loop-next c.loop-d.invariant.centres c.loop-d-test.true);
  halves = rw (c.reach.ensures, c.span-s.ensures) (loop-next c.loop-d.invariant.halves c.loop-d-test.true);
}

pub returns : goal.returns
unfolding box_of
returns c =
    rw (c.fresh.ensures, loop-done c.loop-d.invariant.centres c.loop-d-test.false, loop-done c.loop-d.invariant.halves c.loop-d-test.false)
