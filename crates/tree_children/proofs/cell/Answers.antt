-- `tree_children::cell` meets its contract: from what its calls promise.
use Rattle.tree_children.proofs.cell.Goals as goal

pub returns : goal.returns
returns c =
    rw (c.fresh.ensures, c.child_half.ensures, c.child_centre.ensures)
