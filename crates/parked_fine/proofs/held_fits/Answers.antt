-- `parked_fine::held_fits` meets its contract: from what its calls promise.
use Rattle.parked.specs.Fine.{held_fits}
use borrow.Author.Tests.{lt-ltb, le-ltb}
use Rattle.parked_fine.proofs.held_fits.Goals as goal

pub returns-then-l-k : goal.returns-then-l-k
unfolding held_fits
returns-then-l-k c =
    rw c.is_filling.ensures (simp (le-ltb _ _ c.if-l-k.true))

pub returns-then-l : goal.returns-then-l
unfolding held_fits
returns-then-l c =
    rw c.offset_fits.ensures (simp (lt-ltb _ _ c.if-l-k.false, c.if-l.true))

pub returns : goal.returns
unfolding held_fits
returns c =
    simp (lt-ltb _ _ c.if-l-k.false, c.if-l.false)
