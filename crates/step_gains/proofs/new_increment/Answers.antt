-- `step_gains::new_increment` meets its contract: each need follows from its own premises.
use Rattle.step_gains.specs.Gains.{increment_of}
use borrow.Author.Rules.{rules}
use Rattle.step_gains.proofs.new_increment.Goals as goal

pub returns : goal.returns
unfolding increment_of
returns c =
    search rules
