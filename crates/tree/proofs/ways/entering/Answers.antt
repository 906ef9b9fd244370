-- `tree::ways::entering` meets its contract: from what its calls promise.
use Rattle.tree.proofs.ways.entering.Goals as goal

pub returns : goal.returns
returns c =
    rw (c.point-p.ensures, c.nameable_of.ensures)
