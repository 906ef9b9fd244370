-- `replay_affinity::joins::sizes_right` meets its contract: each need follows from its own premises.
use Rattle.std.proofs.Common.{sym, true≢false, ltb-true}
use Rattle.replay_affinity.proofs.joins.sizes_right.Goals as goal

pub returns-then-a-gt100000 : goal.returns-then-a-gt100000
returns-then-a-gt100000 c =
    λ e. absurd (true≢false (sym e))

pub returns-then-n-gt64 : goal.returns-then-n-gt64
returns-then-n-gt64 c =
    λ e. absurd (true≢false (sym e))

pub returns : goal.returns
returns c =
    λ e. (c.if-a-gt100000.false, c.if-n-gt64.false, ltb-true c.args.k c.args.n e)
