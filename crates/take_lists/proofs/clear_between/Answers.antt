use Rattle.take_lists.proofs.Fronting.{blanks-start, blanks-next, blanks-done}
use Rattle.take_lists.proofs.clear_between.Goals as goal

pub loop-p-init : goal.loop-p-init
loop-p-init g c =
    blanks-start c.requires.0 c.requires.1

pub loop-p-preserved : goal.loop-p-preserved
loop-p-preserved g c =
    blanks-next c.requires.1 c.loop-p-test.true c.loop-p.invariant

pub returns : goal.returns
returns g c =
    blanks-done c.loop-p-test.false c.loop-p.invariant
