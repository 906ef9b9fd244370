-- `near::distances::distance_by` meets its contract: the difference is kept unless it is not above 0. Assumes nothing.
use Rattle.affinity_distances.proofs.distance_by.Goals as goal

pub returns : goal.returns
returns c =
    c.unless_above.ensures
