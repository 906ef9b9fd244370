use Rattle.laws.proofs.Parts.{clears-start, clears-next, clears-done}
use Rattle.areas.proofs.fill.Goals as goal

pub loop-t-init : goal.loop-t-init
loop-t-init g c =
    clears-start

pub loop-t-preserved : goal.loop-t-preserved
loop-t-preserved g c =
    clears-next c.requires c.loop-t-test.true c.loop-t.invariant

pub returns : goal.returns
returns g c =
    clears-done c.loop-t-test.false c.loop-t.invariant
