-- `tree_bounds::Span::widen` meets its contract: from what its calls promise.
use Rattle.tree_bounds.proofs.Span.widen.Goals as goal

pub returns : goal.returns
returns c =
    rw (c.higher.ensures, c.lower.ensures)
