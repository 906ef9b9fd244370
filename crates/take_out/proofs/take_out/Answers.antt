-- `take_out::take_out` meets its contract: the fault that is found is the definition's, and the rest is `take_tested`'s. Assumes nothing.
use Rattle.take_out.proofs.Calls.{taking-asks, taking-told}
use Rattle.take_out.proofs.take_out.Goals as goal

pub take_tested-requires : goal.take_tested-requires
take_tested-requires c =
    taking-asks c.args.run.now c.args.positions.now c.args.increments.now c.args.gains.now c.args.affinities.now c.args.indices.now c.args.offsets.now c.args.forces.now
    c.args.cells.now c.args.table.now c.args.gone.now c.args.old.now _ c.lent_positions-lent.ensures _ c.fault_at-f.ensures

pub returns : goal.returns
returns c =
    taking-told c.args.run.now c.args.positions.now c.args.increments.now c.args.gains.now c.args.affinities.now c.args.indices.now c.args.offsets.now c.args.forces.now
    c.args.cells.now c.args.table.now c.args.gone.now c.args.old.now _ c.lent_positions-lent.ensures _ c.fault_at-f.ensures
    _ _ _ _ _ _ _ _ _ _ _ c.take_tested.ensures
