-- `desk_take::put_taken` meets its contract: from what its calls promise.
use Rattle.desk_take.proofs.put_taken.Goals as goal

pub returns : goal.returns
returns c =
    rw (c.taken_told.ensures, c.number.ensures)
