-- `desk_strip::put_handed` meets its contract: from what its calls promise.
use Rattle.desk_strip.proofs.put_handed.Goals as goal

pub returns : goal.returns
returns c =
    rw (c.hand_told.ensures, c.number.ensures)
