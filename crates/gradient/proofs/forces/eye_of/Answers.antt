-- `gradient::forces::eye_of` meets its contract: from what its calls promise.
use Rattle.gradient.proofs.forces.eye_of.Goals as goal

pub returns : goal.returns
returns c =
    rw c.point.ensures
