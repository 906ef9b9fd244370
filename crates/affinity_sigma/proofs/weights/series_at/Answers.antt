-- `sigma::weights::series_at` meets its contract: the thirteen turns written out. Assumes nothing.
use mathlib.Core.Path.{refl}
use lib.Ieee.{of_int, of_bits}
use Rattle.elementary.specs.Exp.{series}
use Rattle.affinity_sigma.proofs.weights.series_at.Goals as goal

pub returns : goal.returns
unfolding series of_int of_bits
returns c =
    refl
