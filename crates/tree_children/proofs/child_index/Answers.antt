-- `tree_children::child_index` meets its contract: from what its calls promise.
use Rattle.tree_children.specs.Children.{child_index}
use Rattle.laws.specs.Loops.{loop}
use Rattle.tree_node.proofs.Axes.{third}
use native.Mathlib.Omega.{arith}
use Rattle.tree_children.proofs.child_index.Goals as goal

pub returns-then-c-eq1 : goal.returns-then-c-eq1
unfolding child_index loop
returns-then-c-eq1 c =
    rw (c.if-c-eq1.true, c.bit-x.ensures.0) (omega arith)

pub returns-then-c-eq2 : goal.returns-then-c-eq2
unfolding child_index loop
returns-then-c-eq2 c =
    rw (c.if-c-eq2.true, c.bit.ensures.0, c.bit-x.ensures.0) (omega arith)

pub returns : goal.returns
unfolding child_index loop
returns c =
    rw ((third _ c.requires c.if-c-eq1.false c.if-c-eq2.false), c.bit-2.ensures.0, c.bit.ensures.0, c.bit-x.ensures.0) (omega arith)
