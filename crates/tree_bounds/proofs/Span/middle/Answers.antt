-- `tree_bounds::Span::middle` meets its contract: each need follows from its own premises.
use mathlib.Core.Path.{refl}
use Rattle.tree_bounds.specs.Bounds.{middle_of}
use Rattle.tree_bounds.proofs.Span.middle.Goals as goal

pub returns : goal.returns
unfolding middle_of
returns c =
    refl
