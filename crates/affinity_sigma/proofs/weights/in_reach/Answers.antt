-- `sigma::weights::in_reach` meets its contract: both tests. Assumes nothing.
use mathlib.Core.Path.{refl}
use Rattle.affinity_sigma.specs.Blocks.{in_reach}
use Rattle.affinity_sigma.proofs.weights.in_reach.Goals as goal

pub returns : goal.returns
unfolding in_reach
returns c =
    refl
