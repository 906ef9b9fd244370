use Rattle.laws.proofs.Loops.{loop-start, loop-next, loop-done}
use native.Mathlib.Omega.{arith}
use Rattle.affinity_sigma.proofs.total.Goals as goal

pub loop-j-init : goal.loop-j-init
loop-j-init c =
    loop-start _ _ _

pub loop-j-preserved : goal.loop-j-preserved
loop-j-preserved c =
    loop-next c.loop-j.invariant (omega arith)

pub returns : goal.returns
returns c =
    loop-done c.loop-j.invariant (omega arith)
