-- `parked_fine::third_fine` meets its contract: from what its calls promise.
use Rattle.parked.specs.Fine.{third_fine}
use mathlib.Core.Path.{sym, ◌∙◌}
use borrow.Author.Tests.{le-leb, lt-leb}
use Rattle.parked_fine.proofs.third_fine.Goals as goal

pub returns-then-state-gt2 : goal.returns-then-state-gt2
unfolding third_fine
returns-then-state-gt2 c =
    simp (lt-leb _ _ c.if-state-gt2.true)

pub returns-then-not-state_fits : goal.returns-then-not-state_fits
unfolding third_fine
returns-then-not-state_fits c =
    rw (le-leb _ _ c.if-state-gt2.false, rw (c.standing_of-s.ensures, c.value_of-x.ensures) at (sym c.state_fits.ensures ∙ c.if-not-state_fits.true))

pub returns : goal.returns
unfolding third_fine
returns c =
    rw (
      c.links_fine.ensures,
      le-leb _ _ c.if-state-gt2.false,
      (rw (c.standing_of-s.ensures, c.value_of-x.ensures) at (sym c.state_fits.ensures ∙ c.if-not-state_fits.false)),
    )
