-- `desk_park::host_park` meets its contract: each way out tells what the definition does.
use lib.ListN.{length}
use Rattle.tree_node.specs.Arena.{nodes_of}
use Rattle.parked.specs.Parked.{stored_of}
use Rattle.desk_park.proofs.Laws.{mute-said, parked-said}
use Rattle.desk_park.proofs.host_park.Goals as goal

pub returns-then-answer-eq0 : goal.returns-then-answer-eq0
returns-then-answer-eq0 c =
    mute-said _ _ _ _ c.args.answer.now c.if-answer-eq0.true

pub returns : goal.returns
returns c =
    parked-said (stored_of c.args.words.now c.args.positions.now c.args.increments.now c.args.gains.now c.args.affinities.now c.args.indices.now
    c.args.offsets.now) (length c.args.forces.now) (nodes_of c.args.cells.now)
    c.args.target.now c.args.answer.now c.if-answer-eq0.false _ _ c.park-p.ensures _ _ (rw c.parked_told.ensures at c.put_told.ensures)
