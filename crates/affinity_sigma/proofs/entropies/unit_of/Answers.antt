-- `sigma::entropies::unit_of` meets its contract: the lower bits under the exponent of 1. Assumes nothing.
use mathlib.Core.Path.{refl}
use Prim.Native.Nat.{◌-◌, ◌*◌, ◌/◌, ◌^◌}
use native.Mathlib.Nat.{mod-eq_of_lt}
use denote.Floats.{passes}
use lib.Ieee.{binary64, to_bits}
use lib.Ieee.Bits.{nan_bits_is}
use Rattle.laws.specs.Area.{one64}
use Rattle.elementary.proofs.Nans.{not-nan}
use Rattle.elementary.proofs.Parts.{unit-no-nan}
use Rattle.affinity_sigma.proofs.Blocks.{at-most-number}
use Rattle.affinity_sigma.proofs.Shares.{share-high}
use native.Mathlib.Omega.{arith}
use Rattle.affinity_sigma.proofs.entropies.unit_of.Goals as goal

pub float_to_bits-b : goal.float_to_bits-b
float_to_bits-b c =
    rw (not-nan _ (at-most-number c.args.v one64 c.requires.1)) tt

pub overflow_sub-result : goal.overflow_sub-result
overflow_sub-result c =
    rw (mod-eq_of_lt {n = to_bits binary64 c.args.v / 2 ^ 52 * 2 ^ 52} {m = 2 ^ 64}
    (omega (arith, share-high c.args.v (passes _ c.well_formed.0.1) c.requires.0 c.requires.1))) (omega arith)

pub overflow_add-result : goal.overflow_add-result
overflow_add-result c =
    rw (mod-eq_of_lt {n = to_bits binary64 c.args.v / 2 ^ 52 * 2 ^ 52} {m = 2 ^ 64}
    (omega (arith, share-high c.args.v (passes _ c.well_formed.0.1) c.requires.0 c.requires.1)))
    (record { fits = omega (arith, share-high c.args.v (passes _ c.well_formed.0.1) c.requires.0 c.requires.1) })

pub float_from_bits-result : goal.float_from_bits-result
float_from_bits-result c =
    rw (
      mod-eq_of_lt {n = to_bits binary64 c.args.v / 2 ^ 52 * 2 ^ 52} {m = 2 ^ 64}
          (omega (arith, share-high c.args.v (passes _ c.well_formed.0.1) c.requires.0 c.requires.1)),
      nan_bits_is,
      unit-no-nan
          (to_bits binary64 c.args.v - to_bits binary64 c.args.v / 2 ^ 52 * 2 ^ 52) (omega arith),
    ) tt

pub returns : goal.returns
returns c =
    rw (mod-eq_of_lt {n = to_bits binary64 c.args.v / 2 ^ 52 * 2 ^ 52} {m = 2 ^ 64}
    (omega (arith, share-high c.args.v (passes _ c.well_formed.0.1) c.requires.0 c.requires.1))) refl
