-- `parked_file::head::head_bad` meets its contract: by `head_first`, `head-second`, `head-third`, `head-all`.
use Rattle.parked_file.proofs.Stands.{head_first, head-second, head-third, head-all}
use mathlib.Core.Path.{sym, ◌∙◌}
use Rattle.parked_file.proofs.head.head_bad.Goals as goal

pub returns-then-not-first_stands : goal.returns-then-not-first_stands
returns-then-not-first_stands c =
    head_first _ (sym c.first_stands.ensures ∙ c.if-not-first_stands.true)

pub second_stands-requires : goal.second_stands-requires
second_stands-requires c =
    (sym c.first_stands.ensures ∙ c.if-not-first_stands.false)

pub returns-then-not-second_stands : goal.returns-then-not-second_stands
returns-then-not-second_stands c =
    head-second _ ((sym c.first_stands.ensures ∙ c.if-not-first_stands.false)) (sym c.second_stands.ensures ∙ c.if-not-second_stands.true)

pub third_stands-requires : goal.third_stands-requires
third_stands-requires c =
    ((sym c.first_stands.ensures ∙ c.if-not-first_stands.false), (sym c.second_stands.ensures ∙ c.if-not-second_stands.false))

pub returns-then-not-third_stands : goal.returns-then-not-third_stands
returns-then-not-third_stands c =
    head-third _ ((sym c.first_stands.ensures ∙ c.if-not-first_stands.false)) ((sym c.second_stands.ensures ∙ c.if-not-second_stands.false))
    (sym c.third_stands.ensures ∙ c.if-not-third_stands.true)

pub returns : goal.returns
returns c =
    head-all _ ((sym c.first_stands.ensures ∙ c.if-not-first_stands.false)) ((sym c.second_stands.ensures ∙ c.if-not-second_stands.false))
    ((sym c.third_stands.ensures ∙ c.if-not-third_stands.false))
