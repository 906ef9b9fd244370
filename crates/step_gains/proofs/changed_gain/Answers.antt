-- `step_gains::changed_gain` meets its contract: each need follows from its own premises.
use Rattle.step_gains.specs.Gains.{changed}
use Rattle.step_gains.proofs.changed_gain.Goals as goal

pub returns-then-gradient-increment : goal.returns-then-gradient-increment
unfolding changed
returns-then-gradient-increment c =
    rw c.if-gradient-increment.true

pub returns : goal.returns
unfolding changed
returns c =
    rw c.if-gradient-increment.false
