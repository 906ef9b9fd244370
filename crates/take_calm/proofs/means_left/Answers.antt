use Rattle.laws.proofs.Loops.{loop-start, loop-next, loop-done}
use Rattle.take_calm.proofs.means_left.Goals as goal

pub loop-d-init : goal.loop-d-init
loop-d-init c =
    loop-start _ _ _

pub mean_left-requires : goal.mean_left-requires
mean_left-requires c =
    (c.requires.0, c.loop-d-test.true, c.requires.2, c.requires.3, c.requires.4)

pub loop-d-preserved : goal.loop-d-preserved
loop-d-preserved c =
    rw c.mean_left.ensures (loop-next c.loop-d.invariant c.loop-d-test.true)

pub returns : goal.returns
returns c =
    loop-done c.loop-d.invariant c.loop-d-test.false
