-- `elementary::words::value_of` meets its contract: by `nan-bits`, `plain-bits`.
use Rattle.std.proofs.Common.{sym}
use lib.Ieee.{of_bits}
use Rattle.elementary.proofs.Nans.{nan-bits, plain-bits}
use Rattle.elementary.proofs.words.value_of.Goals as goal

pub returns-then-b-gt9218868437227405312 : goal.returns-then-b-gt9218868437227405312
unfolding of_bits
returns-then-b-gt9218868437227405312 c =
    sym (nan-bits _ c.if-b-gt9218868437227405312.true)

pub float_from_bits-result : goal.float_from_bits-result
float_from_bits-result c =
    rw (plain-bits _ c.if-b-gt9218868437227405312.false) tt
