-- `tree::insertion::subdivide` meets its contract: the laws of its loop.
use native.Mathlib.Omega.{arith}
use Rattle.laws.proofs.Loops.{loop-start, loop-next, loop-done}
use Rattle.tree_node.specs.Arena.{nodes_of}
use Rattle.tree.specs.Insert.{child_step, subdivided}
use Rattle.tree.proofs.Descends.{child-asks}
use Rattle.tree.proofs.insertion.subdivide.Goals as goal

pub loop-b-init : goal.loop-b-init
loop-b-init c = loop-start (child_step c.args.s.c c.args.s.out.node c.args.s.out.old c.args.s.q) c.args.s.out.fresh (nodes_of c.args.cells.now)

pub store-requires : goal.store-requires
store-requires c = (omega arith, child-asks c.args.s c.loop-b.b c.child.result c.child.ensures c.requires.1)

pub loop-b-preserved : goal.loop-b-preserved
loop-b-preserved c = rw (c.store.ensures, c.child.ensures) (loop-next c.loop-b.invariant c.loop-b-test.true)

pub returns : goal.returns
unfolding subdivided
returns c = loop-done c.loop-b.invariant c.loop-b-test.false
