-- `parked_fine::is_filling` meets its contract: from what its calls promise.
use Rattle.parked_fine.proofs.is_filling.Goals as goal

pub returns : goal.returns
returns c =
    rw c.word.ensures
