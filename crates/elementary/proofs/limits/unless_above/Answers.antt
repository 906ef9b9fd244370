-- `elementary::limits::unless_above` meets its contract: each need follows from its own premises.
use Rattle.elementary.specs.Limits.{unless_above}
use Rattle.elementary.proofs.limits.unless_above.Goals as goal

pub returns-then-x-constant : goal.returns-then-x-constant
unfolding unless_above
returns-then-x-constant c =
    rw c.if-x-constant.true

pub returns : goal.returns
unfolding unless_above
returns c =
    rw c.if-x-constant.false
