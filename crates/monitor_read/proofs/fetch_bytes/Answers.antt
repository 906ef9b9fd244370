use Rattle.areas.proofs.Fetched.{fetches-start, fetches-next, fetches-done}
use Rattle.monitor_read.proofs.fetch_bytes.Goals as goal

pub loop-i-init : goal.loop-i-init
loop-i-init c =
    fetches-start

pub loop-i-preserved : goal.loop-i-preserved
loop-i-preserved c =
    fetches-next c.requires.0 c.loop-i-test.true c.loop-i.invariant

pub shape_of-area : goal.shape_of-area
shape_of-area c =
    c.loop-i.invariant.size

pub returns : goal.returns
returns c =
    fetches-done c.loop-i-test.false c.loop-i.invariant
