-- `parked::state_word` meets its contract: from what its calls promise.
use Rattle.parked.specs.Parked.{state_word}
use borrow.Author.Tests.{lt-ltb, le-ltb}
use Rattle.parked.proofs.state_word.Goals as goal

pub returns-then-w-l : goal.returns-then-w-l
unfolding state_word
returns-then-w-l c =
    rw (c.area_word.ensures, lt-ltb _ _ c.if-w-l.true)

pub returns-then-w-l-2 : goal.returns-then-w-l-2
unfolding state_word
returns-then-w-l-2 c =
    rw (c.area_word-then-w-l-2.ensures, le-ltb _ _ c.if-w-l.false, lt-ltb _ _ c.if-w-l-2.true)

pub returns : goal.returns
unfolding state_word
returns c =
    rw (c.area_word-2.ensures, le-ltb _ _ c.if-w-l.false, le-ltb _ _ c.if-w-l-2.false)
