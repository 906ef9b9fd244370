-- `elementary::words::bits_of` meets its contract: std tells NaN.
use lib.Ieee.{to_bits}
use Rattle.std.proofs.Common.{sym, ◌∙◌}
use Rattle.elementary.proofs.Nans.{nan-only}
use Rattle.elementary.proofs.words.bits_of.Goals as goal

pub returns-then-is_nan : goal.returns-then-is_nan
unfolding to_bits
returns-then-is_nan c =
    rw (nan-only _ (sym c.is_nan.ensures.value ∙ c.if-is_nan.true))
