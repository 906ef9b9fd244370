-- `replay::word_at` meets its contract: from what its calls promise.
use Rattle.std.proofs.Common.{le-ltb, lt-ltb}
use Rattle.replay.specs.Replay.{word_of}
use Rattle.replay.proofs.word_at.Goals as goal

pub returns-then-i-list : goal.returns-then-i-list
unfolding word_of
returns-then-i-list c =
    rw (lt-ltb _ _ c.if-i-list.true) c.word.ensures

pub returns : goal.returns
unfolding word_of
returns c =
    rw (le-ltb _ _ c.if-i-list.false)
