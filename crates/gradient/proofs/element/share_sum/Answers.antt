use Rattle.laws.proofs.Loops.{loop-next, loop-done}
use native.Mathlib.Omega.{arith}
use Rattle.gradient.proofs.element.share_sum.Goals as goal

pub loop-i-preserved : goal.loop-i-preserved
loop-i-preserved c =
    loop-next c.loop-i.invariant (omega arith)

pub returns : goal.returns
returns c =
    loop-done c.loop-i.invariant (omega arith)
