-- `parked::affinity_word` meets its contract: from what its calls promise.
use Rattle.parked.specs.Parked.{affinity_word}
use borrow.Author.Tests.{lt-ltb, le-ltb}
use Rattle.parked.proofs.affinity_word.Goals as goal

pub area_number-requires : goal.area_number-requires
area_number-requires c =
    (c.requires.0, c.requires.2 c.if-l.true)

pub returns-then-l : goal.returns-then-l
unfolding affinity_word
returns-then-l c =
    rw (c.area_number.ensures, lt-ltb _ _ c.if-w-l.true, c.if-l.true)

pub area_word-requires : goal.area_word-requires
area_word-requires c =
    (c.requires.0, c.requires.1 c.if-l.false)

pub returns-then-w-l : goal.returns-then-w-l
unfolding affinity_word
returns-then-w-l c =
    rw (c.area_word.ensures, lt-ltb _ _ c.if-w-l.true, c.if-l.false)

pub returns-then-w-l-2 : goal.returns-then-w-l-2
unfolding affinity_word
returns-then-w-l-2 c =
    rw (c.area_number-then-w-l-2.ensures, le-ltb _ _ c.if-w-l.false, lt-ltb _ _ c.if-w-l-2.true)

pub returns : goal.returns
unfolding affinity_word
returns c =
    rw (c.area_word-2.ensures, le-ltb _ _ c.if-w-l.false, le-ltb _ _ c.if-w-l-2.false)
