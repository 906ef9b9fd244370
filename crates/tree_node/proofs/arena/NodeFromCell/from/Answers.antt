-- `tree_node::arena::NodeFromCell::from` meets its contract: by `leaf-checked`.
use Rattle.tree_node.specs.Arena.{node_of}
use Rattle.tree_node.proofs.Told.{leaf-checked}
use Rattle.tree_node.proofs.arena.NodeFromCell.from.Goals as goal

pub returns : goal.returns
unfolding node_of
returns c = rw (leaf-checked c.args.x.leaf c.checked_sub.result c.checked_sub.ensures)
