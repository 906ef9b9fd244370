-- `tree_node::arena::nameable_of` meets its contract: the smaller of the two.
use Rattle.tree_node.specs.Arena.{nameable}
use borrow.Author.Rules.{rules}
use Rattle.tree_node.proofs.arena.nameable_of.Goals as goal

pub returns : goal.returns
unfolding nameable
returns c = search rules
