-- `sigma::entropies::log_by` meets its contract: the ten turns written out. Assumes nothing.
use mathlib.Core.Path.{refl}
use lib.Ieee.{of_int, of_bits}
use Rattle.laws.specs.Loops.{loop}
use Rattle.elementary.specs.Ln.{odd_series}
use Rattle.affinity_sigma.proofs.entropies.log_by.Goals as goal

pub returns : goal.returns
unfolding odd_series loop of_int of_bits
returns c =
    refl
