-- `gradient::pulls::attraction` meets its contract: from what its calls promise.
use Rattle.gradient.specs.Forces.{attraction_of}
use Rattle.gradient.proofs.pulls.attraction.Goals as goal

pub returns : goal.returns
unfolding attraction_of
returns c =
    rw (c.follow_all.ensures, c.point-p.ensures)
