-- `sigma::weights::halved_by` meets its contract: the two cases of the distance, 2^-u from its bits. Assumes nothing.
use mathlib.Core.Path.{refl}
use Prim.Native.Nat.{◌-◌, ◌*◌, ◌^◌}
use native.Mathlib.Nat.{mod-eq_of_lt}
use lib.Ieee.{is_nan}
use lib.Ieee.Bits.{nan_bits_is}
use Rattle.elementary.specs.Exp.{power}
use Rattle.affinity_sigma.proofs.Blocks.{halved-power}
use native.Mathlib.Omega.{arith}
use Rattle.affinity_sigma.proofs.weights.halved_by.Goals as goal

pub returns-then-distance : goal.returns-then-distance
returns-then-distance c =
    rw c.if-distance.true

pub float_from_bits-result : goal.float_from_bits-result
unfolding power is_nan
float_from_bits-result c =
    rw (mod-eq_of_lt {n = (1023 - c.args.u) * 2 ^ 52} {m = 2 ^ 64} (omega arith), nan_bits_is, halved-power c.args.u c.requires) tt

pub returns : goal.returns
returns c =
    rw (c.if-distance.false, mod-eq_of_lt {n = (1023 - c.args.u) * 2 ^ 52} {m = 2 ^ 64} (omega arith), halved-power c.args.u c.requires)
    refl
