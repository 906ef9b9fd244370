use Rattle.divergence_sums.specs.Sums.{kl_dense}
use Rattle.laws.proofs.Loops.{loop-start, loop-next, loop-done}
use native.Mathlib.Omega.{arith}
use Rattle.divergence_sums.proofs.kl_divergence.Goals as goal

pub loop-i-init : goal.loop-i-init
loop-i-init c =
    loop-start _ _ _

pub loop-i-preserved : goal.loop-i-preserved
loop-i-preserved c =
    rw c.kl_divergence_row-s.ensures (loop-next c.loop-i.invariant (omega arith))

pub returns : goal.returns
unfolding kl_dense
returns c =
    loop-done c.loop-i.invariant (omega arith)
