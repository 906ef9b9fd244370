use Rattle.areas.proofs.Fetched.{fetches-start, fetches-next, fetches-done}
use Rattle.monitor_read.proofs.fetch_positions.Goals as goal

pub loop-j-init : goal.loop-j-init
loop-j-init c =
    fetches-start

pub loop-j-preserved : goal.loop-j-preserved
loop-j-preserved c =
    rw (c.widen.ensures, c.coordinate.ensures) (fetches-next c.requires.0 c.loop-j-test.true c.loop-j.invariant)

pub shape_of-area : goal.shape_of-area
shape_of-area c =
    c.loop-j.invariant.size

pub returns : goal.returns
returns c =
    fetches-done c.loop-j-test.false c.loop-j.invariant
