-- `tree_bodies::kind` meets its contract: from what its calls promise.
use Rattle.tree_bodies.specs.Bodies.{kind_of}
use borrow.Author.Tests.{eq-eqb, ne_eqb}
use Rattle.tree_bodies.proofs.kind.Goals as goal

pub returns-then-v-eq0 : goal.returns-then-v-eq0
unfolding kind_of
returns-then-v-eq0 c =
    simp (eq-eqb _ _ c.if-v-eq0.true)

pub returns-then-v-eq0-2 : goal.returns-then-v-eq0-2
unfolding kind_of
returns-then-v-eq0-2 c =
    simp (ne_eqb _ _ c.if-v-eq0.false, eq-eqb _ _ c.if-v-eq0-2.true) c.leaf_kind.ensures

pub returns-then-w-theta2 : goal.returns-then-w-theta2
unfolding kind_of
returns-then-w-theta2 c =
    simp (ne_eqb _ _ c.if-v-eq0.false, ne_eqb _ _ c.if-v-eq0-2.false, rw (c.max_width-w.ensures, c.gap.ensures) at c.if-w-theta2.true)

pub returns : goal.returns
unfolding kind_of
returns c =
    simp (ne_eqb _ _ c.if-v-eq0.false, ne_eqb _ _ c.if-v-eq0-2.false, rw (c.max_width-w.ensures, c.gap.ensures) at c.if-w-theta2.false)
