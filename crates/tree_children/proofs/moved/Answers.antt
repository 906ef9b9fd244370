-- `tree_children::moved` meets its contract: each need follows from its own premises.
use borrow.Author.Tests.{eq-eqb, ne_eqb}
use Rattle.tree_children.specs.Children.{moved_of}
use Rattle.tree_children.proofs.moved.Goals as goal

pub returns-then-b-d-eq1 : goal.returns-then-b-d-eq1
unfolding moved_of
returns-then-b-d-eq1 c =
    rw (eq-eqb _ _ c.if-b-d-eq1.true)

pub returns : goal.returns
unfolding moved_of
returns c =
    rw (ne_eqb _ _ c.if-b-d-eq1.false)
