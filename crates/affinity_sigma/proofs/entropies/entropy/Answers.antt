use mathlib.Core.Path.{◌∙◌}
use Rattle.laws.proofs.Loops.{loop-start, loop-on}
use native.Mathlib.Omega.{arith}
use Rattle.affinity_sigma.proofs.entropies.entropy.Goals as goal

pub loop-j-init : goal.loop-j-init
loop-j-init c =
    loop-start _ _ _

pub overflow_sub-n : goal.overflow_sub-n
overflow_sub-n c =
    c.loop-j.invariant.within

pub add_block-h-requires : goal.add_block-h-requires
add_block-h-requires c =
    (omega (arith, c.requires, c.loop-j-test.true), omega arith)

pub loop-j-preserved : goal.loop-j-preserved
loop-j-preserved c =
    rw c.add_block-h.ensures (loop-on 32 c.loop-j.invariant (omega arith))

pub add_block-requires : goal.add_block-requires
add_block-requires c =
    (omega (arith, c.requires, c.loop-j.invariant.within), omega (arith, c.loop-j-test.false))

pub returns : goal.returns
returns c =
    c.add_block.ensures ∙ c.loop-j.invariant.same
