-- `tree_bounds::root::lower` meets its contract: each need follows from its own premises.
use Rattle.tree_bounds.specs.Bounds.{lower}
use Rattle.tree_bounds.proofs.root.lower.Goals as goal

pub returns-then-v-a : goal.returns-then-v-a
unfolding lower
returns-then-v-a c =
    rw c.if-v-a.true

pub returns : goal.returns
unfolding lower
returns c =
    rw c.if-v-a.false
