-- `sigma::weights::weight` meets its contract: a weight by the two cases of the distance. Assumes nothing.
use Rattle.affinity_sigma.specs.Sigma.{weight_of}
use Rattle.affinity_sigma.proofs.weights.weight.Goals as goal

pub returns-then-d : goal.returns-then-d
unfolding weight_of
returns-then-d c =
    rw c.if-d.true

pub returns : goal.returns
unfolding weight_of
returns c =
    rw (c.exp.ensures, c.if-d.false)
