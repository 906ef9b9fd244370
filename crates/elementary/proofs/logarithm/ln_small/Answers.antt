-- `elementary::logarithm::ln_small` meets its contract: from what its calls promise.
use Rattle.std.proofs.Common.{◌-◌, ◌*◌, ◌^◌, sym, ◌∙◌, mod-eq_of_lt, arith}
use lib.Count.{count_leading_zeros, leading_le}
use Rattle.elementary.proofs.Parts.{placed}
use Rattle.elementary.proofs.logarithm.ln_small.Goals as goal

pub overflow_sub-z : goal.overflow_sub-z
overflow_sub-z c =
    (placed c.args.b c.requires.0 c.requires.1).least

pub overflow_cast-z : goal.overflow_cast-z
overflow_cast-z c =
    record { fits = omega (arith, leading_le 64 c.args.b) }

pub overflow_shl-b : goal.overflow_shl-b
overflow_shl-b c =
    let p = placed c.args.b c.requires.0 c.requires.1 in omega (arith, p.most)

pub overflow_sub-b : goal.overflow_sub-b
overflow_sub-b c =
    let p = placed c.args.b c.requires.0 c.requires.1 in
    rw (mod-eq_of_lt {n = c.args.b * 2 ^ (count_leading_zeros 64 c.args.b - 11)} {m = 2 ^ 64} (omega (arith, p.high))) p.low

pub overflow_sub-z-2 : goal.overflow_sub-z-2
overflow_sub-z-2 c =
    (placed c.args.b c.requires.0 c.requires.1).most

pub ln_digits-requires : goal.ln_digits-requires
ln_digits-requires c =
    let p = placed c.args.b c.requires.0 c.requires.1 in
    rw (mod-eq_of_lt {n = c.args.b * 2 ^ (count_leading_zeros 64 c.args.b - 11)} {m = 2 ^ 64} (omega (arith, p.high)))
    (omega (arith, p.low, p.high), omega arith)

pub returns : goal.returns
returns c =
    let p = placed c.args.b c.requires.0 c.requires.1 in
    c.ln_digits.ensures ∙ rw (mod-eq_of_lt {n = c.args.b * 2 ^ (count_leading_zeros 64 c.args.b - 11)} {m = 2 ^ 64} (omega (arith, p.high)))
    (sym p.is)
