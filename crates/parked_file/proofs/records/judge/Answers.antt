-- `parked_file::records::judge` meets its contract: by `due-is`, `due-long`, `verdict-early`, `verdict-bad`, `verdict-all`.
use Rattle.parked_file.proofs.Stands.{due-is, due-long, verdict-early, verdict-bad, verdict-all}
use mathlib.Core.Path.{sym, ◌∙◌}
use native.Mathlib.Omega.{arith}
use Rattle.parked_file.proofs.records.judge.Goals as goal

pub returns-then-h-ne3 : goal.returns-then-h-ne3
returns-then-h-ne3 c =
    rw c.head_bad-h.ensures (verdict-early _ (λ e. c.if-h-ne3.true (c.head_bad-h.ensures ∙ e)))

pub layout_read-l-requires : goal.layout_read-l-requires
layout_read-l-requires c =
    sym c.head_bad-h.ensures ∙ c.if-h-ne3.false

pub first_bad-q-requires : goal.first_bad-q-requires
first_bad-q-requires c =
    (sym c.head_bad-h.ensures ∙ c.if-h-ne3.false, c.layout_read-l.ensures)

pub returns-then-q-due : goal.returns-then-q-due
returns-then-q-due c =
    rw (c.first_bad-q.ensures) (verdict-bad _ (λ e. c.if-q-due.true (c.first_bad-q.ensures ∙ e ∙ sym ((due-is _ _ c.layout_read-l.ensures)))))

pub overflow_mul-result : goal.overflow_mul-result
overflow_mul-result c =
    omega (
      arith,
      (due-is _ _ c.layout_read-l.ensures),
      due-long _
          ((sym (c.first_bad-q.ensures) ∙ c.if-q-due.false ∙ (due-is _ _ c.layout_read-l.ensures))),
    )

pub returns : goal.returns
returns c =
    rw ((due-is _ _ c.layout_read-l.ensures), c.first_bad-q.ensures)
    (verdict-all _ ((sym (c.first_bad-q.ensures) ∙ c.if-q-due.false ∙ (due-is _ _ c.layout_read-l.ensures))))
