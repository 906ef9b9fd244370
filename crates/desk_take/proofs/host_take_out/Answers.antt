-- `desk_take::host_take_out` meets its contract: each way out tells what the definition does.
use Rattle.tree_node.specs.Arena.{nodes_of}
use Rattle.take_out.specs.TakeOut.{holdings}
use Rattle.desk_take.proofs.Laws.{unfit-told, told-room, record-long, taken-said}
use Rattle.desk_take.proofs.host_take_out.Goals as goal

pub returns-then-unfit : goal.returns-then-unfit
returns-then-unfit c =
    unfit-told c.args.gone.now c.args.words.now (holdings c.args.positions.now c.args.increments.now c.args.gains.now c.args.affinities.now
    c.args.indices.now c.args.offsets.now c.args.forces.now c.args.table.now c.args.old.now)
    (nodes_of c.args.cells.now) c.args.answer.now _ c.is_unfit-unfit.ensures c.if-unfit.true _ _ c.put_unfit-k.ensures

pub run_of-own-requires : goal.run_of-own-requires
run_of-own-requires c =
    record-long c.args.gone.now c.args.words.now (holdings c.args.positions.now c.args.increments.now c.args.gains.now c.args.affinities.now
    c.args.indices.now c.args.offsets.now c.args.forces.now c.args.table.now c.args.old.now)
    (nodes_of c.args.cells.now) c.args.answer.now _ c.is_unfit-unfit.ensures c.if-unfit.false

pub put_size-requires : goal.put_size-requires
put_size-requires c =
    record-long c.args.gone.now c.args.words.now (holdings c.args.positions.now c.args.increments.now c.args.gains.now c.args.affinities.now
    c.args.indices.now c.args.offsets.now c.args.forces.now c.args.table.now c.args.old.now)
    (nodes_of c.args.cells.now) c.args.answer.now _ c.is_unfit-unfit.ensures c.if-unfit.false

pub put_taken-k-requires : goal.put_taken-k-requires
put_taken-k-requires c =
    told-room c.args.gone.now c.args.words.now (holdings c.args.positions.now c.args.increments.now c.args.gains.now c.args.affinities.now
    c.args.indices.now c.args.offsets.now c.args.forces.now c.args.table.now c.args.old.now)
    (nodes_of c.args.cells.now) c.args.answer.now _ c.is_unfit-unfit.ensures c.if-unfit.false

pub returns : goal.returns
returns c =
    taken-said c.args.gone.now c.args.words.now (holdings c.args.positions.now c.args.increments.now c.args.gains.now c.args.affinities.now
    c.args.indices.now c.args.offsets.now c.args.forces.now c.args.table.now c.args.old.now)
    (nodes_of c.args.cells.now) c.args.answer.now _ c.is_unfit-unfit.ensures c.if-unfit.false _ c.run_of-own.ensures _ _ _ c.take_out-a.ensures
    _ c.put_size.ensures _ _ c.put_taken-k.ensures
