-- `desk_work::host_work` meets its contract: each way out tells what the definition does.
use Rattle.run_entry.specs.State.{memory}
use Rattle.desk_work.proofs.Lends.{short-said, room-said, unread-said, long-said, work-said}
use Rattle.desk_work.proofs.host_work.Goals as goal

pub returns-then-short : goal.returns-then-short
returns-then-short c =
    short-said c.args.budget c.args.words.now c.args.answer.now _ _ c.is_short-short.ensures c.if-short.true

pub put_unread-u-requires : goal.put_unread-u-requires
put_unread-u-requires c =
    room-said c.args.budget c.args.words.now c.args.answer.now (memory c.args.positions.now c.args.increments.now c.args.gains.now
    c.args.affinities.now c.args.indices.now c.args.offsets.now c.args.forces.now c.args.cells.now) _ c.is_short-short.ensures c.if-short.false

pub returns-then-unread : goal.returns-then-unread
returns-then-unread c =
    unread-said c.args.budget c.args.words.now c.args.answer.now _ _ c.is_short-short.ensures c.if-short.false _ c.is_unread-unread.ensures c.if-unread.true _ _ c.put_unread-u.ensures

pub run_of-own-requires : goal.run_of-own-requires
run_of-own-requires c =
    long-said c.args.budget c.args.words.now c.args.answer.now (memory c.args.positions.now c.args.increments.now c.args.gains.now
    c.args.affinities.now c.args.indices.now c.args.offsets.now c.args.forces.now c.args.cells.now) _ c.is_short-short.ensures c.if-short.false _
    c.is_unread-unread.ensures c.if-unread.false

pub put_after-requires : goal.put_after-requires
put_after-requires c =
    long-said c.args.budget c.args.words.now c.args.answer.now (memory c.args.positions.now c.args.increments.now c.args.gains.now
    c.args.affinities.now c.args.indices.now c.args.offsets.now c.args.forces.now c.args.cells.now) _ c.is_short-short.ensures c.if-short.false _
    c.is_unread-unread.ensures c.if-unread.false

pub put_answer-requires : goal.put_answer-requires
put_answer-requires c =
    room-said c.args.budget c.args.words.now c.args.answer.now (memory c.args.positions.now c.args.increments.now c.args.gains.now
    c.args.affinities.now c.args.indices.now c.args.offsets.now c.args.forces.now c.args.cells.now) _ c.is_short-short.ensures c.if-short.false

pub returns : goal.returns
returns c =
    work-said c.args.budget c.args.words.now c.args.answer.now (memory c.args.positions.now c.args.increments.now c.args.gains.now
    c.args.affinities.now c.args.indices.now c.args.offsets.now c.args.forces.now c.args.cells.now) _ c.is_short-short.ensures c.if-short.false _
    c.is_unread-unread.ensures c.if-unread.false
    _ c.run_of-own.ensures _ _ _ c.work-a.ensures _ c.put_after.ensures _ c.put_answer.ensures _ c.number_of-k.ensures
