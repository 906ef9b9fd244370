-- `run_units::tree_unit` meets its contract: by `box-asks`, `box-told`, `insert-asks`, `insert-told`.
use Rattle.std.specs.Prelude.{Ok}
use Rattle.run_units.proofs.Lends.{box-asks, box-told, insert-asks, insert-told}
use Rattle.run_units.proofs.tree_unit.Goals as goal

pub plant-requires : goal.plant-requires
plant-requires c = box-asks _ _ c.args.cells.now c.requires _ c.is_box-first.ensures

pub returns-then-first : goal.returns-then-first
returns-then-first c =
    box-told _ _ c.args.cells.now c.requires _ c.is_box-first.ensures c.if-first.true c.plant.new.cells c.plant.ensures (Ok c.advanced.result) (rw c.advanced.ensures)

pub insert-a-requires : goal.insert-a-requires
insert-a-requires c = insert-asks _ _ c.args.cells.now c.requires _ c.is_box-first.ensures c.if-first.false _ c.point_next-j.ensures

pub returns : goal.returns
returns c =
    insert-told _ _ c.args.cells.now c.requires _ c.is_box-first.ensures c.if-first.false _ c.point_next-j.ensures
    c.insert-a.result c.insert-a.new.cells c.insert-a.ensures _ c.inserted.ensures
