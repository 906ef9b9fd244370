-- `elementary::logarithm::ln_bits` meets its contract: by `ln-normal`.
use Rattle.std.proofs.Common.{◌*◌, ◌/◌, ◌^◌, sym, refl, mod-eq_of_lt, arith}
use Rattle.elementary.proofs.Parts.{ln-normal}
use Rattle.elementary.proofs.logarithm.ln_bits.Goals as goal

pub returns : goal.returns
returns c =
    rw (c.ln_digits.ensures, mod-eq_of_lt {n = c.args.b / 2 ^ 52 * 2 ^ 52} {m = 2 ^ 64} (omega arith))
    (sym (ln-normal c.args.b (c.args.b / 2 ^ 52) refl (omega arith) c.requires.1))
