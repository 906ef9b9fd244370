use Rattle.divergence_sums.specs.Sums.{kl_lists}
use Rattle.laws.proofs.Loops.{loop-start, loop-next, loop-done}
use native.Mathlib.Omega.{arith}
use Rattle.divergence_sums.proofs.barnes_hut_kl.Goals as goal

pub loop-i-init : goal.loop-i-init
loop-i-init c =
    loop-start _ _ _

pub kl_list-s-requires : goal.kl_list-s-requires
kl_list-s-requires c =
    record { i_lt_n = (c.loop-i-test.true, c.requires.c_in_bounds); linked = c.requires.all_linked _ c.loop-i-test.true }

pub loop-i-preserved : goal.loop-i-preserved
loop-i-preserved c =
    rw c.kl_list-s.ensures (loop-next c.loop-i.invariant (omega arith))

pub returns : goal.returns
unfolding kl_lists
returns c =
    loop-done c.loop-i.invariant (omega arith)
