-- `parked::area_word` meets its contract: each need follows from its own premises.
use Rattle.parked.specs.Parked.{area_word}
use borrow.Author.Tests.{lt-ltb, le-ltb}
use Rattle.parked.proofs.area_word.Goals as goal

pub returns-then-k-m : goal.returns-then-k-m
unfolding area_word
returns-then-k-m c =
    rw (lt-ltb _ _ c.if-k-m.true)

pub returns : goal.returns
unfolding area_word
returns c =
    rw (le-ltb _ _ c.if-k-m.false)
