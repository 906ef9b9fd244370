-- `tree_turns::absorb` meets its contract: from what its calls promise.
use Rattle.tree_turns.specs.Turns.{absorbed, mass_of}
use Rattle.tree_turns.proofs.absorb.Goals as goal

pub returns : goal.returns
unfolding absorbed mass_of
returns c =
    rw c.means-mass.ensures
