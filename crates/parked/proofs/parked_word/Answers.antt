-- `parked::parked_word` meets its contract: from what its calls promise.
use Rattle.parked.specs.Parked.{parked_word}
use borrow.Author.Tests.{lt-ltb, le-ltb}
use Rattle.parked.proofs.parked_word.Goals as goal

pub head_word-requires : goal.head_word-requires
head_word-requires c =
    (c.requires.run_long, c.if-w-lt12.true)

pub returns-then-w-lt12 : goal.returns-then-w-lt12
unfolding parked_word
returns-then-w-lt12 c =
    rw (c.head_word.ensures, lt-ltb _ _ c.if-w-lt12.true)

pub state_word-requires : goal.state_word-requires
state_word-requires c =
    (c.if-w-lt12.false, c.requires.positions-long, c.requires.increments-long, c.requires.gains-long)

pub returns-then-w-l : goal.returns-then-w-l
unfolding parked_word
returns-then-w-l c =
    rw (c.state_word.ensures, le-ltb _ _ c.if-w-lt12.false, lt-ltb _ _ c.if-w-l.true)

pub affinity_word-requires : goal.affinity_word-requires
affinity_word-requires c =
    (c.if-w-l.false, c.requires.matrix-long, c.requires.offsets-long, c.requires.indices-long, c.requires.weights-long)

pub returns : goal.returns
unfolding parked_word
returns c =
    rw (c.affinity_word.ensures, le-ltb _ _ c.if-w-lt12.false, le-ltb _ _ c.if-w-l.false)
