-- `fault_words::is_unfit` meets its contract: from what its calls promise.
use borrow.Author.Tests.{eq-eqb, ne_eqb}
use Rattle.fault_words.specs.FaultWords.{unfit}
use Rattle.fault_words.proofs.is_unfit.Goals as goal

pub returns-then-told-eq0 : goal.returns-then-told-eq0
unfolding unfit
returns-then-told-eq0 c =
    rw (eq-eqb _ _ c.if-told-eq0.true)

pub returns-else-told-eq0 : goal.returns-else-told-eq0
unfolding unfit
returns-else-told-eq0 c =
    rw (ne_eqb _ _ c.if-told-eq0.false, c.run_fine.ensures)
