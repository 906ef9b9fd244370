-- `prepare::lengths_fit` meets its contract: from what its calls promise.
use borrow.Author.Tests.{le-leb, lt-leb}
use mathlib.Core.Path.{sym, ◌∙◌}
use Rattle.prepare.specs.Prepare.{lengths_fit}
use Rattle.prepare.proofs.lengths_fit.Goals as goal

pub returns-then-not-areas_fit : goal.returns-then-not-areas_fit
unfolding lengths_fit
returns-then-not-areas_fit c =
    rw (sym c.areas_fit.ensures ∙ c.if-not-areas_fit.true)

pub returns-then-l-s : goal.returns-then-l-s
unfolding lengths_fit
returns-then-l-s c =
    rw (sym c.areas_fit.ensures ∙ c.if-not-areas_fit.false, lt-leb _ _ c.if-l-s.true)

pub returns : goal.returns
unfolding lengths_fit
returns c =
    rw (sym c.areas_fit.ensures ∙ c.if-not-areas_fit.false, le-leb _ _ c.if-l-s.false)
