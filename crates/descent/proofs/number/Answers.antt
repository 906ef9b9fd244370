-- `descent::number` meets its contract: from what its calls promise.
use Rattle.descent.specs.Descent.{work_number}
use Rattle.descent.proofs.number.Goals as goal

pub returns-in-Running : goal.returns-in-Running
unfolding work_number
returns-in-Running c =
    rw c.in-Running.is

pub returns-in-Stopped : goal.returns-in-Stopped
unfolding work_number
returns-in-Stopped c =
    rw c.in-Stopped.is

pub returns-in-Finished : goal.returns-in-Finished
unfolding work_number
returns-in-Finished c =
    rw c.in-Finished.is

pub returns-in-Full : goal.returns-in-Full
unfolding work_number
returns-in-Full c =
    rw c.in-Full.is

pub returns-in-Wild : goal.returns-in-Wild
unfolding work_number
returns-in-Wild c =
    rw c.in-Wild.is

pub returns-in-Bad : goal.returns-in-Bad
unfolding work_number
returns-in-Bad c =
    rw c.in-Bad.is c.number.ensures
