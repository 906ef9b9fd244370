-- `tree_bodies::gap` meets its contract: each need follows from its own premises.
use Rattle.tree_bodies.specs.Bodies.{gap_of}
use Rattle.laws.specs.Loops.{loop}
use Rattle.tree_node.proofs.Axes.{third}
use Rattle.tree_bodies.proofs.gap.Goals as goal

pub returns-then-c-eq1 : goal.returns-then-c-eq1
unfolding gap_of loop
returns-then-c-eq1 c =
    rw c.if-c-eq1.true

pub returns-then-c-eq2 : goal.returns-then-c-eq2
unfolding gap_of loop
returns-then-c-eq2 c =
    rw c.if-c-eq2.true

pub returns : goal.returns
unfolding gap_of loop
returns c =
    rw (third _ c.requires c.if-c-eq1.false c.if-c-eq2.false)
