-- `elementary::exponential::power_of` meets its contract: each need follows from its own premises.
use Rattle.elementary.proofs.Powers.{raised, field}
use Rattle.elementary.specs.Exp.{power}
use Rattle.std.proofs.Common.{suc, ◌*◌, ◌^◌, pos, mod-eq_of_lt, arith, w64}
use lib.Ieee.{is_nan}
use lib.Ieee.Bits.{nan_bits_is}
use mir.ValLaws.{to_z-of_z}
use Rattle.elementary.proofs.exponential.power_of.Goals as goal

pub overflow_add-result : goal.overflow_add-result
overflow_add-result c =
    let r = raised c.args.k c.requires in
    rw (to_z-of_z w64 c.args.k c.ranges.k, r.sum) (record { sfits = omega (arith, r.small) })

pub overflow_cast-result : goal.overflow_cast-result
overflow_cast-result c =
    let r = raised c.args.k c.requires in
    rw (to_z-of_z w64 c.args.k c.ranges.k, r.sum, to_z-of_z w64 (pos (suc (field c.args.k))) (record { sfits = omega (arith, r.small) }))
    (tt, record { fits = omega (arith, r.small) })

pub float_from_bits-result : goal.float_from_bits-result
unfolding power is_nan
float_from_bits-result c =
    let r = raised c.args.k c.requires in
    rw (
      to_z-of_z w64 c.args.k c.ranges.k,
      r.sum,
      to_z-of_z w64 (pos (suc (field c.args.k))) (record { sfits = omega (arith, r.small) }),
      mod-eq_of_lt
          {n = suc (field c.args.k) * 2 ^ 52} {m = 2 ^ 64} (omega (arith, r.small)),
      nan_bits_is,
      r.float,
    ) tt

pub returns : goal.returns
returns c =
    let r = raised c.args.k c.requires in
    rw (
      to_z-of_z w64 c.args.k c.ranges.k,
      r.sum,
      to_z-of_z w64 (pos (suc (field c.args.k))) (record { sfits = omega (arith, r.small) }),
      mod-eq_of_lt
          {n = suc (field c.args.k) * 2 ^ 52} {m = 2 ^ 64} (omega (arith, r.small)),
    ) r.float
