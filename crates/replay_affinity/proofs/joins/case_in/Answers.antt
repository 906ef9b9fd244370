-- `replay_affinity::joins::case_in` meets its contract: a case that fits.
use Rattle.replay_affinity.proofs.joins.case_in.Goals as goal

pub case_at-requires : goal.case_at-requires
case_at-requires c = c.sizes_right.ensures c.if-not-sizes_right.false
