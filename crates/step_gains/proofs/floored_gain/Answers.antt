-- `step_gains::floored_gain` meets its contract: each need follows from its own premises.
use Rattle.step_gains.specs.Gains.{floored}
use Rattle.step_gains.proofs.floored_gain.Goals as goal

pub returns-then-gain : goal.returns-then-gain
unfolding floored
returns-then-gain c =
    rw c.if-gain.true

pub returns : goal.returns
unfolding floored
returns c =
    rw c.if-gain.false
