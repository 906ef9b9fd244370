-- `partner::is_mirrored` meets its contract: by `met-first`, `met-second`, `met-third`.
use Rattle.partner.proofs.Mirrors.{met-first, met-second, met-third}
use mathlib.Core.Path.{sym, ◌∙◌}
use Rattle.partner.proofs.is_mirrored.Goals as goal
use Rattle.partner.proofs.is_mirrored.Goals.{then-is_met, else-is_met}

pub returns-then-is_met-2 : goal.returns-then-is_met-2
returns-then-is_met-2 c = elim c.if-is_met.branch [
  | then-is_met w ↦ c.if-is_met-2.true ∙ sym (met-first _ _ _ _ _ c.requires.1 (sym c.is_met.ensures ∙ w.if-is_met.true))
  | else-is_met w ↦ c.if-is_met-2.true ∙ sym (met-second _ _ _ _ _ c.requires.1 (sym w.is_met-else-is_met.ensures ∙ sym w.value-is ∙ c.if-is_met-2.true))
]

pub returns-else-is_met-2 : goal.returns-else-is_met-2
returns-else-is_met-2 c = elim c.if-is_met.branch [
  | then-is_met w ↦ absurd cc
  | else-is_met w ↦ c.is_met_anywhere.ensures ∙ met-third _ _ _ _ _ c.requires.1
      (sym c.is_met.ensures ∙ w.if-is_met.false)
      (sym w.is_met-else-is_met.ensures ∙ sym w.value-is ∙ c.if-is_met-2.false)
]
