-- `tree_node::arena::lay_node` meets its contract: a leaf's word in each case.
use Rattle.tree_node.specs.Arena.{laid_of}
use Rattle.tree_node.proofs.arena.lay_node.Goals as goal

pub returns-in-None : goal.returns-in-None
unfolding laid_of
returns-in-None c = rw c.in-None.is

pub returns-in-Some : goal.returns-in-Some
unfolding laid_of
returns-in-Some c = rw c.in-Some.is
