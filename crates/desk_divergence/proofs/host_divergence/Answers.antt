-- `desk_divergence::host_divergence` meets its contract: each way out tells what the definition does.
use Rattle.run_entry.specs.State.{memory}
use Rattle.desk_divergence.proofs.Laws.{unfit-said, answer-room, long-said, figure-said}
use Rattle.desk_divergence.proofs.host_divergence.Goals as goal

pub returns-then-is_unfit : goal.returns-then-is_unfit
returns-then-is_unfit c =
    unfit-said c.args.words.now _ _ c.args.answer.now _ c.is_unfit.ensures c.if-is_unfit.true _ _ c.put_unfit.ensures

pub run_of-r-requires : goal.run_of-r-requires
run_of-r-requires c =
    long-said c.args.words.now (memory c.args.positions.now c.args.increments.now c.args.gains.now c.args.affinities.now c.args.indices.now
    c.args.offsets.now c.args.forces.now c.args.cells.now) c.args.copy.now c.args.answer.now _ c.is_unfit.ensures c.if-is_unfit.false

pub put_told-requires : goal.put_told-requires
put_told-requires c =
    answer-room c.args.words.now (memory c.args.positions.now c.args.increments.now c.args.gains.now c.args.affinities.now c.args.indices.now
    c.args.offsets.now c.args.forces.now c.args.cells.now) c.args.copy.now c.args.answer.now _ c.is_unfit.ensures c.if-is_unfit.false

pub returns : goal.returns
returns c =
    figure-said c.args.words.now (memory c.args.positions.now c.args.increments.now c.args.gains.now c.args.affinities.now c.args.indices.now
    c.args.offsets.now c.args.forces.now c.args.cells.now) c.args.copy.now c.args.answer.now _ c.is_unfit.ensures c.if-is_unfit.false
    _ c.run_of-r.ensures _ c.divergence-d.ensures _ _ (rw c.diverged_word.ensures at c.put_told.ensures)
