-- `run_budget::onward` meets its contract: by the answer of the unit.
use Rattle.run_budget.specs.Budget.{counted_on}
use Rattle.run_budget.proofs.onward.Goals as goal

pub returns-in-Ok : goal.returns-in-Ok
unfolding counted_on
returns-in-Ok c =
    rw c.in-Ok.is

pub returns-in-Err : goal.returns-in-Err
unfolding counted_on
returns-in-Err c =
    rw c.in-Err.is
