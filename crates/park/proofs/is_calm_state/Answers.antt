-- `park::is_calm_state` meets its contract: from what its calls promise.
use Rattle.park.specs.Park.{calm_state}
use mathlib.Core.Path.{sym, ◌∙◌}
use Rattle.park.proofs.is_calm_state.Goals as goal

pub returns-then-not-is_calm_area : goal.returns-then-not-is_calm_area
unfolding calm_state
returns-then-not-is_calm_area c =
    rw (sym c.is_calm_area.ensures ∙ c.if-not-is_calm_area.true)

pub returns-then-not-is_calm_area-2 : goal.returns-then-not-is_calm_area-2
unfolding calm_state
returns-then-not-is_calm_area-2 c =
    rw (sym c.is_calm_area.ensures ∙ c.if-not-is_calm_area.false, sym c.is_calm_area-2.ensures ∙ c.if-not-is_calm_area-2.true)

pub returns : goal.returns
unfolding calm_state
returns c =
    rw (sym c.is_calm_area.ensures ∙ c.if-not-is_calm_area.false, sym c.is_calm_area-2.ensures ∙ c.if-not-is_calm_area-2.false)
    c.is_calm_area-3.ensures
