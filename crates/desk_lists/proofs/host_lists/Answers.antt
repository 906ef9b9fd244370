-- `desk_lists::host_lists` meets its contract: each way out tells what the definition does.
use lib.ListN.{length}
use Rattle.tree_node.specs.Arena.{nodes_of}
use Rattle.parked.specs.Parked.{stored_of}
use Rattle.desk_lists.proofs.Laws.{mute-lists-said, listing-said}
use Rattle.desk_lists.proofs.host_lists.Goals as goal

pub returns-then-answer-eq0 : goal.returns-then-answer-eq0
returns-then-answer-eq0 c =
    mute-lists-said _ _ _ _ c.args.answer.now c.if-answer-eq0.true

pub returns : goal.returns
returns c =
    listing-said (stored_of c.args.words.now c.args.positions.now c.args.increments.now c.args.gains.now c.args.affinities.now c.args.indices.now
    c.args.offsets.now) (length c.args.forces.now) (nodes_of c.args.cells.now)
    c.args.target.now c.args.answer.now c.if-answer-eq0.false _ _ c.write_lists-p.ensures _ _ (rw c.lists_told.ensures at c.put_told.ensures)
