-- `run_budget::stands` meets its contract: each need follows from its own premises.
use Rattle.run_budget.proofs.stands.Goals as goal

pub returns-in-Running : goal.returns-in-Running
returns-in-Running c =
    rw c.in-Running.is

pub returns-in-Stopped : goal.returns-in-Stopped
returns-in-Stopped c =
    rw c.in-Stopped.is

pub returns-in-Finished : goal.returns-in-Finished
returns-in-Finished c =
    rw c.in-Finished.is
