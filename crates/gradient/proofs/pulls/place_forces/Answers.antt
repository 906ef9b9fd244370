-- `gradient::pulls::place_forces` meets its contract: from what its calls promise.
use Rattle.gradient.proofs.pulls.place_forces.Goals as goal

pub returns : goal.returns
returns c =
    rw c.attraction-t.ensures at c.store.ensures
