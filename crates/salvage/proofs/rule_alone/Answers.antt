-- `salvage::rule_alone` meets its contract: each return, by the tests that led there. Assumes nothing.
use mathlib.Core.Path.{sym, ◌∙◌}
use Rattle.salvage.specs.Salvage.{rule_alone}
use Rattle.salvage.proofs.rule_alone.Goals as goal

pub returns-then-not-picture_fine : goal.returns-then-not-picture_fine
unfolding rule_alone
returns-then-not-picture_fine c =
    rw (rw c.half_word.ensures.0 at (sym c.picture_fine.ensures ∙ c.if-not-picture_fine.true))

pub returns-then-not-side_fine : goal.returns-then-not-side_fine
unfolding rule_alone
returns-then-not-side_fine c =
    rw (
      (rw c.half_word.ensures.0 at (sym c.picture_fine.ensures ∙ c.if-not-picture_fine.false)),
      sym c.side_fine.ensures ∙ c.if-not-side_fine.true,
    )

pub returns-then-not-field_fine : goal.returns-then-not-field_fine
unfolding rule_alone
returns-then-not-field_fine c =
    rw (
      (rw c.half_word.ensures.0 at (sym c.picture_fine.ensures ∙ c.if-not-picture_fine.false)),
      (sym c.side_fine.ensures ∙ c.if-not-side_fine.false),
      sym c.field_fine.ensures ∙ c.if-not-field_fine.true,
    )

pub returns-then-not-spare_fine : goal.returns-then-not-spare_fine
unfolding rule_alone
returns-then-not-spare_fine c =
    rw (
      (rw c.half_word.ensures.0 at (sym c.picture_fine.ensures ∙ c.if-not-picture_fine.false)),
      (sym c.side_fine.ensures ∙ c.if-not-side_fine.false),
      (sym c.field_fine.ensures ∙ c.if-not-field_fine.false),
      sym
          c.spare_fine.ensures ∙ c.if-not-spare_fine.true,
    )

pub returns-then-not-values_fine : goal.returns-then-not-values_fine
unfolding rule_alone
returns-then-not-values_fine c =
    rw (
      (rw c.half_word.ensures.0 at (sym c.picture_fine.ensures ∙ c.if-not-picture_fine.false)),
      (sym c.side_fine.ensures ∙ c.if-not-side_fine.false),
      (sym c.field_fine.ensures ∙ c.if-not-field_fine.false),
      (sym c.spare_fine.ensures ∙ c.if-not-spare_fine.false),
      sym c.values_fine.ensures ∙ c.if-not-values_fine.true,
    )

pub returns : goal.returns
unfolding rule_alone
returns c =
    rw (
      (rw c.half_word.ensures.0 at (sym c.picture_fine.ensures ∙ c.if-not-picture_fine.false)),
      (sym c.side_fine.ensures ∙ c.if-not-side_fine.false),
      (sym c.field_fine.ensures ∙ c.if-not-field_fine.false),
      (sym c.spare_fine.ensures ∙ c.if-not-spare_fine.false),
      sym c.values_fine.ensures ∙ c.if-not-values_fine.false,
    )
