-- `tree_node::arena::store` meets its contract: from what its call promises.
use Rattle.tree_node.proofs.Told.{store_told}
use Rattle.tree_node.proofs.arena.store.Goals as goal

pub returns : goal.returns
returns c = store_told c.args.cells.now c.args.i c.args.v c.lay_node.result c.lay_node.ensures
