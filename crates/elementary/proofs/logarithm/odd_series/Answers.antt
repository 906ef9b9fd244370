use Rattle.std.proofs.Common.{arith}
use Rattle.elementary.specs.Ln.{odd_series}
use Rattle.laws.proofs.Loops.{loop-start, loop-next, loop-done}
use Rattle.elementary.proofs.logarithm.odd_series.Goals as goal

pub loop-i-init : goal.loop-i-init
loop-i-init c =
    loop-start _ _ _

pub loop-i-preserved : goal.loop-i-preserved
loop-i-preserved c =
    loop-next c.loop-i.invariant (omega arith)

pub returns : goal.returns
unfolding odd_series
returns c =
    loop-done c.loop-i.invariant (omega arith)
