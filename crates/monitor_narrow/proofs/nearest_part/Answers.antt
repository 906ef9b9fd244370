-- The nearest whole number: the remainder, doubled, is below the unit, above it or at it, and 1 << d is 2^d.
use Prim.Native.Nat.{◌^◌}
use Rattle.laws.proofs.Numbers.{shl_one}
use Rattle.monitor_narrow.proofs.Laws.{nearest-down, nearest-up, nearest-even, part-most, remainder-most}
use native.Mathlib.Omega.{arith}
use Rattle.monitor_narrow.proofs.nearest_part.Goals as goal

pub overflow_mul-twice : goal.overflow_mul-twice
overflow_mul-twice c =
    rw (shl_one c.args.d (omega arith)) (omega (arith, remainder-most c.args.m c.args.d c.requires.1))

pub returns-then-twice-unit : goal.returns-then-twice-unit
returns-then-twice-unit c =
    rw (shl_one c.args.d (omega arith)) (
      nearest-down c.args.m (2 ^ c.args.d) (rw (shl_one c.args.d (omega arith)) at c.if-twice-unit.true),
      omega
          (arith, part-most c.args.m (2 ^ c.args.d) c.requires.0),
    )

pub overflow_add-result : goal.overflow_add-result
overflow_add-result c =
    rw (shl_one c.args.d (omega arith)) (omega (arith, part-most c.args.m (2 ^ c.args.d) c.requires.0))

pub returns-then-twice-unit-2 : goal.returns-then-twice-unit-2
returns-then-twice-unit-2 c =
    rw (shl_one c.args.d (omega arith)) (
      nearest-up c.args.m (2 ^ c.args.d) (rw (shl_one c.args.d (omega arith)) at c.if-twice-unit-2.true),
      omega
          (arith, part-most c.args.m (2 ^ c.args.d) c.requires.0),
    )

pub overflow_add-result-2 : goal.overflow_add-result-2
overflow_add-result-2 c =
    rw (shl_one c.args.d (omega arith)) (omega (arith, part-most c.args.m (2 ^ c.args.d) c.requires.0))

pub returns : goal.returns
returns c =
    rw (shl_one c.args.d (omega arith)) (
      nearest-even c.args.m (2 ^ c.args.d) (rw (shl_one c.args.d (omega arith)) at c.if-twice-unit.false)
          (rw (shl_one c.args.d (omega arith)) at c.if-twice-unit-2.false),
      omega
          (arith, part-most c.args.m (2 ^ c.args.d) c.requires.0),
    )
