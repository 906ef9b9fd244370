-- `prepare::set_out` meets its contract: from what its calls promise.
use Rattle.prepare.proofs.set_out.Goals as goal

pub returns : goal.returns
returns c =
    (c.copy_front.ensures, c.fill.ensures, c.fill-2.ensures, c.fill-3.ensures)
