-- `tree_children::child_centre` meets its contract: from what its calls promise.
use Rattle.tree_children.specs.Children.{child_centre}
use Rattle.laws.specs.Loops.{loop}
use Rattle.tree_node.proofs.Axes.{third}
use Rattle.tree_children.proofs.child_centre.Goals as goal

pub returns-then-c-eq1 : goal.returns-then-c-eq1
unfolding child_centre loop
returns-then-c-eq1 c =
    rw (c.if-c-eq1.true, c.moved-x.ensures)

pub returns-then-c-eq2 : goal.returns-then-c-eq2
unfolding child_centre loop
returns-then-c-eq2 c =
    rw (c.if-c-eq2.true, c.moved-y.ensures, c.moved-x.ensures)

pub returns : goal.returns
unfolding child_centre loop
returns c =
    rw ((third _ c.requires c.if-c-eq1.false c.if-c-eq2.false), c.moved.ensures, c.moved-y.ensures, c.moved-x.ensures)
