-- `parked_fine::index_fits` meets its contract: from what its calls promise.
use Rattle.parked.specs.Fine.{index_fits}
use borrow.Author.Tests.{lt-ltb, le-ltb}
use Rattle.parked_fine.proofs.index_fits.Goals as goal

pub returns-then-w-l : goal.returns-then-w-l
unfolding index_fits
returns-then-w-l c =
    rw (c.word.ensures, lt-ltb _ _ c.if-w-l.true)

pub returns : goal.returns
unfolding index_fits
returns c =
    rw c.is_filling.ensures (simp (le-ltb _ _ c.if-w-l.false))
