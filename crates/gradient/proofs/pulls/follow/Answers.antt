-- `gradient::pulls::follow` meets its contract: from what its calls promise.
use Rattle.gradient.proofs.pulls.follow.Goals as goal

pub returns : goal.returns
returns c =
    rw (c.attract.ensures, c.point-q.ensures)
