-- `tree_node::cells::point` meets its contract: each need follows from its own premises.
use native.Mathlib.Nat.{add-zero}
use Rattle.tree_node.specs.Node.{point_of}
use Rattle.laws.specs.Loops.{loop}
use Rattle.tree_node.proofs.Axes.{third}
use Rattle.tree_node.proofs.cells.point.Goals as goal

pub returns-then-c-eq1 : goal.returns-then-c-eq1
unfolding point_of loop
returns-then-c-eq1 c =
    rw (c.if-c-eq1.true, add-zero)

pub returns-then-c-eq2 : goal.returns-then-c-eq2
unfolding point_of loop
returns-then-c-eq2 c =
    rw (c.if-c-eq2.true, add-zero)

pub returns : goal.returns
unfolding point_of loop
returns c =
    let the-if2 = c.if-c-eq2 in
    let the-if1 = c.if-c-eq1 in
    rw ((third _ c.requires.0 the-if1.false the-if2.false), add-zero)
