-- `gradient::element::normaliser` meets its contract: from what its calls promise.
use Rattle.gradient.specs.Element.{normaliser_of}
use Rattle.gradient.proofs.element.normaliser.Goals as goal

pub returns : goal.returns
unfolding normaliser_of
returns c =
    rw (c.unless_above.ensures, c.share_sum.ensures)
