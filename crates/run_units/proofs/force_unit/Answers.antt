-- `run_units::force_unit` meets its contract: by `point-asks`, `point-told`, `row_told`.
use Rattle.run_units.proofs.Lends.{point-asks, point-told, row_told}
use Rattle.run_units.proofs.force_unit.Goals as goal

pub point_forces-requires : goal.point_forces-requires
point_forces-requires c =
    point-asks _ c.args.positions.now c.args.affinities.now c.args.indices.now c.args.offsets.now c.args.cells.now c.args.forces.now
    c.requires _ c.by_tree-tree.ensures c.if-tree.true _ c.point_seen-i.ensures

pub returns-then-tree : goal.returns-then-tree
returns-then-tree c =
    point-told _ c.args.positions.now c.args.affinities.now c.args.indices.now c.args.offsets.now c.args.cells.now c.args.forces.now
    c.requires _ c.by_tree-tree.ensures c.if-tree.true _ c.point_seen-i.ensures
    _ c.exaggeration-e.ensures _ c.point_forces.ensures _ c.advanced-t.ensures

pub returns : goal.returns
returns c =
    row_told _ c.args.positions.now c.args.affinities.now c.args.indices.now c.args.offsets.now c.args.cells.now c.args.forces.now
    c.requires _ c.by_tree-tree.ensures c.if-tree.false _ c.row_unit.ensures _ c.advanced-t-2.ensures
