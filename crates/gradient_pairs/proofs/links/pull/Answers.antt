-- `gradient_pairs::links::pull` meets its contract: from what its calls promise.
use Rattle.gradient_pairs.specs.Links.{pull_of}
use Rattle.gradient_pairs.proofs.links.pull.Goals as goal

pub returns : goal.returns
unfolding pull_of
returns c =
    rw c.gap.ensures
