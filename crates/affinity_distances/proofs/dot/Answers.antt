use native.Mathlib.Omega.{arith}
use Prim.Native.Nat.{◌-◌}
use Rattle.laws.proofs.Loops.{loop-start, loop-next, loop-done}
use Rattle.affinity_distances.proofs.dot.Goals as goal

pub loop-k-init : goal.loop-k-init
loop-k-init c =
    loop-start _ _ _

pub loop-k-preserved : goal.loop-k-preserved
loop-k-preserved c =
    loop-next c.loop-k.invariant (omega arith)

pub returns : goal.returns
returns c =
    loop-done c.loop-k.invariant (omega arith)
