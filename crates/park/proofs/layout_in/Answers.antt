-- `park::layout_in` meets its contract: from what its calls promise.
use Rattle.parked.specs.Parked.{layout_in}
use Rattle.park.proofs.layout_in.Goals as goal

pub links_in-links-requires : goal.links_in-links-requires
links_in-links-requires c =
    c.requires.last-offset

pub layout_of-requires : goal.layout_of-requires
layout_of-requires c =
    (c.requires.frames-most, c.requires.components-most, rw c.links_in-links.ensures c.requires.links-most)

pub returns : goal.returns
unfolding layout_in
returns c =
    rw (c.layout_of.ensures, c.links_in-links.ensures)
