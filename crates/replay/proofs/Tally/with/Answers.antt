-- `replay::Tally::with` meets its contract: from what its calls promise.
use Rattle.std.proofs.Common.{eq-eqb, ne_eqb}
use Rattle.replay.specs.Replay.{tallied}
use Rattle.replay.proofs.Tally.with.Goals as goal

pub returns-then-right : goal.returns-then-right
unfolding tallied
returns-then-right c =
    rw (c.if-right.true, c.wrapping_add_u64-cases.ensures.value)

pub returns-then-self-eq0 : goal.returns-then-self-eq0
unfolding tallied
returns-then-self-eq0 c =
    rw (c.if-right.false, eq-eqb _ _ c.if-self-eq0.true, c.wrapping_add_u64-cases.ensures.value)

pub returns : goal.returns
unfolding tallied
returns c =
    rw (c.if-right.false, ne_eqb _ _ c.if-self-eq0.false, c.wrapping_add_u64-cases.ensures.value, c.wrapping_add_u64.ensures.value)
