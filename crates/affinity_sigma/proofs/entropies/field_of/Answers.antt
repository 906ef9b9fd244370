-- `sigma::entropies::field_of` meets its contract: the upper bits of a number that is not below 1e-10. Assumes nothing.
use mathlib.Core.Path.{refl}
use denote.Floats.{passes}
use Rattle.laws.specs.Area.{one64}
use Rattle.elementary.proofs.Nans.{not-nan}
use Rattle.affinity_sigma.proofs.Blocks.{at-most-number}
use Rattle.affinity_sigma.proofs.Shares.{field-most}
use native.Mathlib.Omega.{arith}
use Rattle.affinity_sigma.proofs.entropies.field_of.Goals as goal

pub float_to_bits-result : goal.float_to_bits-result
float_to_bits-result c =
    rw (not-nan _ (at-most-number c.args.v one64 c.requires.1)) tt

pub overflow_cast-result : goal.overflow_cast-result
overflow_cast-result c =
    record { fits = omega (arith, field-most c.args.v (passes _ c.well_formed.0.1) c.requires.0 c.requires.1) }

pub returns : goal.returns
returns c =
    (refl, field-most c.args.v (passes _ c.well_formed.0.1) c.requires.0 c.requires.1)
