-- `elementary::logarithm::ln_digits` meets its contract: by `ln-halved`, `ln-whole`, `k-is`, `k-fits`, `k-more`, `unit-no-nan`.
use Rattle.std.proofs.Common.{pos, ◌+ℤ◌, arith, w64}
use Rattle.elementary.proofs.Parts.{ln-halved, ln-whole, k-is, k-fits, k-more, unit-no-nan}
use lib.Ieee.Bits.{nan_bits_is}
use lib.Ieee.{minus}
use mir.ValLaws.{to_z-of_z}
use Rattle.elementary.proofs.logarithm.ln_digits.Goals as goal

pub float_from_bits-m : goal.float_from_bits-m
float_from_bits-m c =
    rw (nan_bits_is, unit-no-nan c.args.t c.requires.0) tt

pub overflow_sub-k : goal.overflow_sub-k
overflow_sub-k c =
    rw (k-is c.args.x c.requires.1) (k-fits c.args.x (omega arith))

pub overflow_add-k : goal.overflow_add-k
overflow_add-k c =
    rw (k-is c.args.x c.requires.1, to_z-of_z w64 (minus c.args.x 1074) (k-fits c.args.x (omega arith)))
    (k-more c.args.x c.requires.1)

pub returns-then-m : goal.returns-then-m
returns-then-m c =
    rw (
      c.ln_at.ensures,
      k-is c.args.x c.requires.1,
      to_z-of_z w64 (minus c.args.x 1074)
          (k-fits c.args.x (omega arith)),
      to_z-of_z w64 (minus c.args.x 1074 +ℤ pos 1) (k-more c.args.x c.requires.1),
    )
    (ln-halved _ _ c.if-m.true)

pub returns : goal.returns
returns c =
    rw (
      c.ln_at-2.ensures,
      k-is c.args.x c.requires.1,
      to_z-of_z w64 (minus c.args.x 1074)
          (k-fits c.args.x (omega arith)),
    ) (ln-whole _ _ c.if-m.false)
