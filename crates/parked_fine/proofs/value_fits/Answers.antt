-- `parked_fine::value_fits` meets its contract: from what its calls promise.
use Rattle.parked.specs.Fine.{value_fits}
use borrow.Author.Tests.{lt-ltb, le-ltb}
use Rattle.parked_fine.proofs.value_fits.Goals as goal

pub returns-then-w-b : goal.returns-then-w-b
unfolding value_fits
returns-then-w-b c =
    rw (c.is_calm.ensures, c.value_of-x.ensures, c.word.ensures, lt-ltb _ _ c.if-w-b.true)

pub returns : goal.returns
unfolding value_fits
returns c =
    rw (c.is_filling.ensures, le-ltb _ _ c.if-w-b.false)
