-- `elementary::limits::is_calm` meets its contract: by the first test.
use Rattle.elementary.specs.Limits.{up_to}
use Rattle.elementary.proofs.limits.is_calm.Goals as goal

pub returns-then-x : goal.returns-then-x
unfolding up_to
returns-then-x c =
    rw c.if-x.true

pub returns-else-x : goal.returns-else-x
unfolding up_to
returns-else-x c =
    rw c.if-x.false
