-- `tree_turns::mean` meets its contract: each need follows from its own premises.
use Rattle.tree_turns.specs.Turns.{mean_of}
use borrow.Author.Rules.{rules}
use Rattle.tree_turns.proofs.mean.Goals as goal

pub returns : goal.returns
unfolding mean_of
returns c =
    search rules
