-- `gradient::pulls::store` meets its contract: from what its calls promise.
use Rattle.gradient.specs.Forces.{stored}
use Rattle.gradient.proofs.pulls.store.Goals as goal

pub returns : goal.returns
unfolding stored
returns c =
    rw (c.put-2.ensures, c.put.ensures)
