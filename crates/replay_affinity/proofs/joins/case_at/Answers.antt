-- `replay_affinity::joins::case_at` meets its contract: from what its calls promise.
use Rattle.std.proofs.Common.{◌^◌, arith, le→leb}
use lib.Ieee.{in_float}
use Rattle.replay_affinity.proofs.joins.case_at.Goals as goal

pub int_to_float-n : goal.int_to_float-n
unfolding in_float
int_to_float-n c =
    le→leb c.args.n (2 ^ 53) (omega (arith, c.requires.1))

pub returns : goal.returns
returns c =
    (omega (arith, c.requires, c.product-m.ensures.1, c.if-links-gt8192.false), omega (arith, c.requires, c.product-m.ensures.1, c.if-links-gt8192.false))
