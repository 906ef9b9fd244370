-- `tree_bodies::body` meets its contract: from what its calls promise.
use Rattle.tree_bodies.specs.Bodies.{body_of}
use Rattle.tree_bodies.proofs.body.Goals as goal

pub returns : goal.returns
unfolding body_of
returns c =
    rw (c.pushed-neg.ensures, c.gap.ensures)
