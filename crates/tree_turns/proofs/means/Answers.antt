-- `tree_turns::means` meets its contract: from what its calls promise.
use Rattle.laws.specs.Loops.{loop}
use Rattle.tree_node.proofs.Axes.{third}
use Rattle.tree_turns.proofs.means.Goals as goal

pub returns-then-c-eq1 : goal.returns-then-c-eq1
unfolding loop
returns-then-c-eq1 c =
    rw (c.if-c-eq1.true, c.mean.ensures)

pub returns-then-c-eq2 : goal.returns-then-c-eq2
unfolding loop
returns-then-c-eq2 c =
    rw (c.if-c-eq2.true, c.mean-2.ensures, c.mean.ensures)

pub returns : goal.returns
unfolding loop
returns c =
    rw ((third _ c.requires c.if-c-eq1.false c.if-c-eq2.false), c.mean-3.ensures, c.mean-2.ensures, c.mean.ensures)
