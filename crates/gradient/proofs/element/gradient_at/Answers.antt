-- `gradient::element::gradient_at` meets its contract: from what its calls promise.
use Rattle.gradient.specs.Element.{gradient_of}
use Rattle.gradient.proofs.element.gradient_at.Goals as goal

pub returns-then-exact : goal.returns-then-exact
unfolding gradient_of
returns-then-exact c =
    rw c.if-exact.true

pub returns : goal.returns
unfolding gradient_of
returns c =
    rw c.if-exact.false
