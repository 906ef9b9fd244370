-- `parked_fine::word_fine` meets its contract: from what its calls promise.
use Rattle.parked.specs.Fine.{word_fine}
use borrow.Author.Tests.{lt-ltb, le-ltb}
use Rattle.parked_fine.proofs.word_fine.Goals as goal

pub returns-then-w-l : goal.returns-then-w-l
unfolding word_fine
returns-then-w-l c =
    rw c.state_fine.ensures (simp (lt-ltb _ _ c.if-w-l.true))

pub returns : goal.returns
unfolding word_fine
returns c =
    rw c.affinity_fine.ensures (simp (le-ltb _ _ c.if-w-l.false))
