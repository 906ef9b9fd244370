-- `replay_tree::case_in` meets its contract: a case that fits.
use Rattle.std.proofs.Common.{arith}
use Rattle.replay_tree.proofs.case_in.Goals as goal

pub overflow_cast-n : goal.overflow_cast-n
overflow_cast-n c = omega (arith, (c.sizes_right.ensures c.if-not-sizes_right.false).2)

pub case_at-requires : goal.case_at-requires
case_at-requires c = c.sizes_right.ensures c.if-not-sizes_right.false
