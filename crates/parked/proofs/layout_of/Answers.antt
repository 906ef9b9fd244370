-- `parked::layout_of` meets its contract: from what its calls promise.
use Rattle.parked.specs.Layout.{layout_of}
use mathlib.Core.Path.{refl}
use Rattle.parked.proofs.layout_of.Goals as goal

pub returns : goal.returns
unfolding layout_of
returns c =
    rw (c.filled_up-listed.ensures.0, c.filled_up.ensures.0, c.filled_up-room.ensures.0, c.held_of-held.ensures.0, c.cells_of-cells.ensures.0) refl
