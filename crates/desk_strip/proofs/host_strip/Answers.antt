-- `desk_strip::host_strip` meets its contract: each way out tells what the definition does.
use native.Mathlib.Omega.{arith}
use Rattle.run_entry.specs.State.{memory}
use Rattle.desk_strip.proofs.Laws.{mute-strip-said, strip-said}
use Rattle.desk_strip.proofs.host_strip.Goals as goal

pub returns-then-answer-eq0 : goal.returns-then-answer-eq0
returns-then-answer-eq0 c =
    mute-strip-said _ _ _ _ c.args.answer.now c.if-answer-eq0.true

pub put_handed-k-requires : goal.put_handed-k-requires
put_handed-k-requires c =
    omega (arith, c.if-answer-eq0.false)

pub returns : goal.returns
returns c =
    strip-said c.args.words.now (memory c.args.positions.now c.args.increments.now c.args.gains.now c.args.affinities.now c.args.indices.now c.args.offsets.now c.args.forces.now c.args.cells.now)
    c.args.order.now c.args.gaps.now c.args.answer.now c.if-answer-eq0.false _ _ _ c.hand_out-h.ensures _ _ c.put_handed-k.ensures
