-- `sigma::excess_of` meets its contract: exp of the entropy, less the perplexity asked for. Assumes nothing.
use mathlib.Core.Path.{refl}
use Rattle.affinity_sigma.specs.Sigma.{excess}
use Rattle.affinity_sigma.proofs.excess_of.Goals as goal

pub returns : goal.returns
unfolding excess
returns c =
    rw (c.exp.ensures, c.entropy.ensures) refl
