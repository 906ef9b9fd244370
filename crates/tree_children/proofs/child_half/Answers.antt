-- `tree_children::child_half` meets its contract: each need follows from its own premises.
use Rattle.tree_children.specs.Children.{child_half}
use Rattle.laws.specs.Loops.{loop}
use Rattle.tree_node.proofs.Axes.{third}
use Rattle.tree_children.proofs.child_half.Goals as goal

pub returns-then-c-eq1 : goal.returns-then-c-eq1
unfolding child_half loop
returns-then-c-eq1 c =
    rw c.if-c-eq1.true

pub returns-then-c-eq2 : goal.returns-then-c-eq2
unfolding child_half loop
returns-then-c-eq2 c =
    rw c.if-c-eq2.true

pub returns : goal.returns
unfolding child_half loop
returns c =
    rw (third _ c.requires c.if-c-eq1.false c.if-c-eq2.false)
