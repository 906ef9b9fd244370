-- `run_budget::ended` meets its contract: from what its calls promise.
use Rattle.run_budget.specs.Budget.{ended_of}
use Rattle.run_budget.proofs.ended.Goals as goal

pub returns-in-Ok : goal.returns-in-Ok
unfolding ended_of
returns-in-Ok c =
    rw (c.in-Ok.is, c.stands-answer.ensures)

pub returns-in-Err : goal.returns-in-Err
unfolding ended_of
returns-in-Err c =
    rw (c.in-Err.is, c.halted-answer.ensures)
