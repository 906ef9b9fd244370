-- `run_budget::goes_on` meets its contract: by whether the last unit was done.
use Rattle.run_budget.specs.Budget.{spends_on}
use Rattle.run_budget.proofs.goes_on.Goals as goal

pub returns-then-is_ok : goal.returns-then-is_ok
unfolding spends_on
returns-then-is_ok c =
    rw (rw c.is_ok.ensures.value at c.if-is_ok.true)

pub returns-else-is_ok : goal.returns-else-is_ok
unfolding spends_on
returns-else-is_ok c =
    rw (rw c.is_ok.ensures.value at c.if-is_ok.false) c.if-is_ok.false
