-- `tree_bodies::max_width` meets its contract: from what its calls promise.
use Rattle.tree_bodies.specs.Bodies.{width_of}
use Rattle.laws.specs.Loops.{loop}
use Rattle.tree_node.proofs.Axes.{third}
use Rattle.tree_bodies.proofs.max_width.Goals as goal

pub returns-then-c-eq1 : goal.returns-then-c-eq1
unfolding width_of loop
returns-then-c-eq1 c =
    rw (c.if-c-eq1.true, c.larger-x.ensures)

pub returns-then-c-eq2 : goal.returns-then-c-eq2
unfolding width_of loop
returns-then-c-eq2 c =
    rw (c.if-c-eq2.true, c.larger-y.ensures, c.larger-x.ensures)

pub returns : goal.returns
unfolding width_of loop
returns c =
    rw ((third _ c.requires c.if-c-eq1.false c.if-c-eq2.false), c.larger.ensures, c.larger-y.ensures, c.larger-x.ensures)
