-- `parked_fine::state_fine` meets its contract: from what its calls promise.
use Rattle.parked.specs.Fine.{state_fine}
use borrow.Author.Tests.{lt-ltb, le-ltb}
use Rattle.parked_fine.proofs.state_fine.Goals as goal

pub returns-then-w-l : goal.returns-then-w-l
unfolding state_fine
returns-then-w-l c =
    rw c.value_fits.ensures (simp (lt-ltb _ _ c.if-w-l.true))

pub returns-then-w-l-2 : goal.returns-then-w-l-2
unfolding state_fine
returns-then-w-l-2 c =
    rw c.value_fits-then-w-l-2.ensures (simp (le-ltb _ _ c.if-w-l.false, lt-ltb _ _ c.if-w-l-2.true))

pub returns : goal.returns
unfolding state_fine
returns c =
    rw c.value_fits-2.ensures (simp (le-ltb _ _ c.if-w-l.false, le-ltb _ _ c.if-w-l-2.false))
