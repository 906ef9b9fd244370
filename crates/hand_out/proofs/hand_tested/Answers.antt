-- `hand_out::hand_tested` meets its contract: by `hand-bad`, `hand-outside`, `hand-early`, `hand-barred`, `order-short`, `gaps-short` and others.
use Rattle.hand_out.proofs.Laws.{hand-bad, hand-outside, hand-early, hand-barred, order-short, gaps-short, handed-along}
use Rattle.run_entry.specs.Entry.{is_fine}
use mathlib.Core.Path.{sym, ◌∙◌, ap}
use native.Mathlib.Omega.{arith}
use Rattle.hand_out.proofs.hand_tested.Goals as goal

pub returns-in-Err : goal.returns-in-Err
returns-in-Err c =
    hand-bad _ _ _ _ _ _ c.in-Err.is

pub settings_of-s-requires : goal.settings_of-s-requires
settings_of-s-requires c =
    omega (arith, (c.requires (ap is_fine c.in_default.is)).words_long)

pub returns-then-not-in_profile : goal.returns-then-not-in_profile
returns-then-not-in_profile c =
    hand-outside _ _ _ _ _ (ap is_fine c.in_default.is)
    (rw c.settings_of-s.ensures at (sym c.in_profile.ensures ∙ c.if-not-in_profile.true))

pub bounds-words-9 : goal.bounds-words-9
bounds-words-9 c =
    omega (arith, (c.requires (ap is_fine c.in_default.is)).words_long)

pub returns-then-not-is_ended : goal.returns-then-not-is_ended
returns-then-not-is_ended c =
    hand-early _ _ _ _ _ (ap is_fine c.in_default.is)
    (rw c.settings_of-s.ensures at (sym c.in_profile.ensures ∙ c.if-not-in_profile.false))
    (rw c.standing_of-t.ensures at (sym c.is_ended.ensures ∙ c.if-not-is_ended.true))

pub bounds-words-0 : goal.bounds-words-0
bounds-words-0 c =
    omega (arith, (c.requires (ap is_fine c.in_default.is)).words_long)

pub is_calm_along-requires : goal.is_calm_along-requires
is_calm_along-requires c =
    (c.requires (ap is_fine c.in_default.is)).positions-long

pub returns-then-not-is_calm_along : goal.returns-then-not-is_calm_along
returns-then-not-is_calm_along c =
    hand-barred _ _ _ _ _ (ap is_fine c.in_default.is)
    (rw c.settings_of-s.ensures at (sym c.in_profile.ensures ∙ c.if-not-in_profile.false))
    (rw c.standing_of-t.ensures at (sym c.is_ended.ensures ∙ c.if-not-is_ended.false))
    (sym c.is_calm_along.ensures ∙ c.if-not-is_calm_along.true)

pub returns-then-order-n : goal.returns-then-order-n
returns-then-order-n c =
    order-short _ _ _ _ _ (ap is_fine c.in_default.is)
    (rw c.settings_of-s.ensures at (sym c.in_profile.ensures ∙ c.if-not-in_profile.false))
    (rw c.standing_of-t.ensures at (sym c.is_ended.ensures ∙ c.if-not-is_ended.false))
    (sym c.is_calm_along.ensures ∙ c.if-not-is_calm_along.false) c.if-order-n.true

pub returns-then-gaps-n : goal.returns-then-gaps-n
returns-then-gaps-n c =
    gaps-short _ _ _ _ _ (ap is_fine c.in_default.is)
    (rw c.settings_of-s.ensures at (sym c.in_profile.ensures ∙ c.if-not-in_profile.false))
    (rw c.standing_of-t.ensures at (sym c.is_ended.ensures ∙ c.if-not-is_ended.false))
    (sym c.is_calm_along.ensures ∙ c.if-not-is_calm_along.false) c.if-gaps-n.true

pub put_along-requires : goal.put_along-requires
put_along-requires c = (
  (c.requires (ap is_fine c.in_default.is)).frames-most,
  (c.requires
      (ap is_fine c.in_default.is)).positions-long,
  c.if-order-n.false,
  c.if-gaps-n.false,
  sym c.is_calm_along.ensures ∙ c.if-not-is_calm_along.false,
)

pub shape_of-order : goal.shape_of-order
shape_of-order c =
    c.put_along.auto.order

pub shape_of-gaps : goal.shape_of-gaps
shape_of-gaps c =
    c.put_along.auto.gaps

pub returns : goal.returns
returns c =
    c.put_along.ensures ∙ handed-along _ _ _ _ _ (ap is_fine c.in_default.is)
    (rw c.settings_of-s.ensures at (sym c.in_profile.ensures ∙ c.if-not-in_profile.false))
    (rw c.standing_of-t.ensures at (sym c.is_ended.ensures ∙ c.if-not-is_ended.false))
    (sym c.is_calm_along.ensures ∙ c.if-not-is_calm_along.false) c.if-order-n.false c.if-gaps-n.false
