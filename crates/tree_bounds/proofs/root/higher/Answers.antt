-- `tree_bounds::root::higher` meets its contract: each need follows from its own premises.
use Rattle.tree_bounds.specs.Bounds.{higher}
use Rattle.tree_bounds.proofs.root.higher.Goals as goal

pub returns-then-v-a : goal.returns-then-v-a
unfolding higher
returns-then-v-a c =
    rw c.if-v-a.true

pub returns : goal.returns
unfolding higher
returns c =
    rw c.if-v-a.false
