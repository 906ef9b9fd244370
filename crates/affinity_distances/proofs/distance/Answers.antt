-- `near::distances::distance` meets its contract: the squares are those of the two frames. Assumes nothing.
use mathlib.Core.Path.{refl}
use Rattle.affinity_distances.specs.Distances.{distance_of}
use Rattle.affinity_distances.proofs.distance.Goals as goal

pub returns : goal.returns
unfolding distance_of
returns c =
    rw (c.distance_by.ensures, c.dot.ensures, c.requires.i_value.0, c.requires.i_value.1) refl
