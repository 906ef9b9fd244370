-- `parked_fine::weight_fits` meets its contract: from what its calls promise.
use Rattle.parked.specs.Fine.{weight_fits}
use borrow.Author.Tests.{lt-ltb, le-ltb}
use Rattle.parked_fine.proofs.weight_fits.Goals as goal

pub returns-then-w-l : goal.returns-then-w-l
unfolding weight_fits
returns-then-w-l c =
    simp (lt-ltb _ _ c.if-w-l.true)

pub returns : goal.returns
unfolding weight_fits
returns c =
    rw c.is_filling.ensures (simp (le-ltb _ _ c.if-w-l.false))
