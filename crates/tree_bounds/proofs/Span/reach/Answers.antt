-- `tree_bounds::Span::reach` meets its contract: from what its calls promise.
use Rattle.tree_bounds.specs.Bounds.{reach_of}
use Rattle.tree_bounds.proofs.Span.reach.Goals as goal

pub returns : goal.returns
unfolding reach_of
returns c =
    rw c.unless_above.ensures
