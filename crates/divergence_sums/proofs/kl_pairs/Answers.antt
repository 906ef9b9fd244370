use Rattle.laws.proofs.Loops.{loop-start, loop-next, loop-done}
use native.Mathlib.Omega.{arith}
use Rattle.divergence_sums.proofs.kl_pairs.Goals as goal

pub loop-k-init : goal.loop-k-init
loop-k-init c =
    loop-start _ _ _

pub loop-k-preserved : goal.loop-k-preserved
loop-k-preserved c =
    rw c.kl_pair-so_far.ensures (loop-next c.loop-k.invariant (omega arith))

pub returns : goal.returns
returns c =
    loop-done c.loop-k.invariant (omega arith)
