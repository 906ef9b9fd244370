-- `blind::clear_rows` meets its contract: from what its calls promise.
use Rattle.blind.proofs.clear_rows.Goals as goal

pub returns : goal.returns
returns c =
    (c.fill.ensures, c.fill-2.ensures, c.fill-3.ensures, c.fill-4.ensures)
