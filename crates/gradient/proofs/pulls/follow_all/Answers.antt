use Rattle.laws.proofs.Loops.{loop-next, loop-done}
use native.Mathlib.Omega.{arith}
use Rattle.gradient.proofs.pulls.follow_all.Goals as goal

pub loop-k-preserved : goal.loop-k-preserved
loop-k-preserved c =
    rw c.follow-s.ensures (loop-next c.loop-k.invariant (omega arith))

pub returns : goal.returns
returns c =
    loop-done c.loop-k.invariant (omega arith)
