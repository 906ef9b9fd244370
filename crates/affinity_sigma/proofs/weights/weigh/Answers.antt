use mathlib.Core.Path.{refl, ◌∙◌}
use Rattle.laws.proofs.Loops.{loop-start, loop-on}
use native.Mathlib.Omega.{arith}
use Rattle.affinity_sigma.proofs.weights.weigh.Goals as goal

pub loop-j-init : goal.loop-j-init
loop-j-init c =
    (refl, loop-start _ _ _)

pub overflow_sub-n : goal.overflow_sub-n
overflow_sub-n c =
    c.loop-j.invariant.1.within

pub weigh_block-requires : goal.weigh_block-requires
weigh_block-requires c = (
  omega (arith, c.requires.0, c.loop-j-test.true),
  omega (arith, c.requires.1, c.loop-j.invariant.0, c.loop-j-test.true),
  omega
      arith,
)

pub loop-j-preserved : goal.loop-j-preserved
loop-j-preserved c =
    (c.weigh_block.auto.shares ∙ c.loop-j.invariant.0, rw c.weigh_block.ensures (loop-on 32 c.loop-j.invariant.1 (omega arith)))

pub weigh_block-requires-2 : goal.weigh_block-requires-2
weigh_block-requires-2 c = (
  omega (arith, c.requires.0, c.loop-j.invariant.1.within),
  omega (arith, c.requires.1, c.loop-j.invariant.0, c.loop-j.invariant.1.within),
  omega
      (arith, c.loop-j-test.false),
)

pub shape_of-shares : goal.shape_of-shares
shape_of-shares c =
    c.weigh_block-2.auto.shares ∙ c.loop-j.invariant.0

pub returns : goal.returns
returns c =
    c.weigh_block-2.ensures ∙ c.loop-j.invariant.1.same
