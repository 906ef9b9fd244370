use Rattle.laws.proofs.Loops.{loop-start, loop-next, loop-done}
use native.Mathlib.Omega.{arith}
use Rattle.affinity_sigma.proofs.entropies.all_logs.Goals as goal

pub loop-t-init : goal.loop-t-init
loop-t-init c =
    loop-start _ _ _

pub loop-t-preserved : goal.loop-t-preserved
loop-t-preserved c =
    rw c.log_by.ensures (loop-next c.loop-t.invariant (omega arith))

pub returns : goal.returns
returns c =
    loop-done c.loop-t.invariant (omega arith)
