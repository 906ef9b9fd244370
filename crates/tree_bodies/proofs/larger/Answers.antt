-- `tree_bodies::larger` meets its contract: each need follows from its own premises.
use Rattle.tree_bodies.specs.Bodies.{wider}
use Rattle.tree_bodies.proofs.larger.Goals as goal

pub returns-then-v-w : goal.returns-then-v-w
unfolding wider
returns-then-v-w c =
    rw c.if-v-w.true

pub returns : goal.returns
unfolding wider
returns c =
    rw c.if-v-w.false
