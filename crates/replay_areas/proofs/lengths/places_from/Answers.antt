-- `replay_areas::lengths::places_from` meets its contract: from what its calls promise.
use Rattle.replay_areas.proofs.lengths.places_from.Goals as goal

pub returns : goal.returns
returns c =
    rw (c.plus-end.ensures, c.plus-offsets.ensures, c.plus-indices.ensures, c.plus-affinities.ensures, c.plus-gains.ensures, c.plus-increments.ensures)
