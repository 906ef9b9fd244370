use Rattle.laws.proofs.Loops.{loop-start, loop-next, loop-done}
use native.Mathlib.Omega.{arith}
use Rattle.divergence_sums.proofs.kl_links.Goals as goal

pub loop-k-init : goal.loop-k-init
loop-k-init c =
    loop-start _ _ _

pub kl_link-s-requires : goal.kl_link-s-requires
kl_link-s-requires c =
    (c.requires.i_lt_n.0, c.requires.i_lt_n.1, omega arith, omega arith, c.requires.below _ (omega arith))

pub loop-k-preserved : goal.loop-k-preserved
loop-k-preserved c =
    rw c.kl_link-s.ensures (loop-next c.loop-k.invariant (omega arith))

pub returns : goal.returns
returns c =
    loop-done c.loop-k.invariant (omega arith)
