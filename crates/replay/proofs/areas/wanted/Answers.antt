-- `replay::areas::wanted` meets its contract: from what its calls promise.
use Rattle.std.proofs.Common.{le-ltb, lt-ltb}
use Rattle.replay.proofs.areas.wanted.Goals as goal

pub returns-then-i-m : goal.returns-then-i-m
returns-then-i-m c =
    rw (lt-ltb _ _ c.if-i-m.true) (rw c.plus.ensures at c.word_at.ensures)

pub returns : goal.returns
returns c =
    rw (le-ltb _ _ c.if-i-m.false) c.wrapping_add_u64.ensures.value
