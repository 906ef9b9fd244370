-- `tree::root::plant` meets its contract: from what its calls promise.
use Rattle.tree.proofs.Descends.{root-asks, root_told}
use Rattle.tree.proofs.root.plant.Goals as goal

pub store-requires : goal.store-requires
store-requires c =
    root-asks c.args.cells.now c.args.positions.now c.args.n c.args.c c.bounding_box-root.result c.bounding_box-root.ensures c.requires.2

pub returns : goal.returns
returns c =
    root_told c.args.cells.now c.args.positions.now c.args.n c.args.c c.bounding_box-root.result c.bounding_box-root.ensures c.store.new.cells c.store.ensures
