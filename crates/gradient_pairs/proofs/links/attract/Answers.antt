-- `gradient_pairs::links::attract` meets its contract: from what its calls promise.
use Rattle.gradient_pairs.specs.Links.{pulled}
use Rattle.gradient_pairs.proofs.links.attract.Goals as goal

pub returns : goal.returns
unfolding pulled
returns c =
    rw (c.pushed.ensures, c.pull.ensures)
