-- `parked_fine::affinity_fine` meets its contract: from what its calls promise.
use Rattle.parked.specs.Fine.{affinity_fine}
use borrow.Author.Tests.{lt-ltb, le-ltb}
use Rattle.parked_fine.proofs.affinity_fine.Goals as goal

pub returns-then-w-l : goal.returns-then-w-l
unfolding affinity_fine
returns-then-w-l c =
    rw c.held_fits.ensures (simp (lt-ltb _ _ c.if-w-l.true))

pub returns-then-w-l-2 : goal.returns-then-w-l-2
unfolding affinity_fine
returns-then-w-l-2 c =
    rw c.index_fits.ensures (simp (le-ltb _ _ c.if-w-l.false, lt-ltb _ _ c.if-w-l-2.true))

pub returns : goal.returns
unfolding affinity_fine
returns c =
    rw c.weight_fits.ensures (simp (le-ltb _ _ c.if-w-l.false, le-ltb _ _ c.if-w-l-2.false))
