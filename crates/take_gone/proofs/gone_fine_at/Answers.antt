-- `take_gone::gone_fine_at` meets its contract: the tests are those of the definition. Assumes nothing.
use mathlib.Core.Path.{refl, sym, ◌∙◌}
use mathlib.Core.Bool.{true≢false}
use borrow.Author.Tests.{eq-eqb, ne_eqb}
use Rattle.take_gone.specs.Gone.{gone_fine_at}
use Rattle.take_gone.proofs.gone_fine_at.Goals as goal
use Rattle.take_gone.proofs.gone_fine_at.Goals.{then-t-eq0, else-t-eq0}

pub returns-then-gone-t : goal.returns-then-gone-t
unfolding gone_fine_at
returns-then-gone-t c = elim c.if-t-eq0.branch [
  | then-t-eq0 w ↦ rw (eq-eqb c.args.t 0 w.if-t-eq0.true) refl
  | else-t-eq0 w ↦ rw (ne_eqb c.args.t 0 w.if-t-eq0.false, sym w.value-is ∙ c.if-gone-t.true) refl
]

pub returns-else-gone-t : goal.returns-else-gone-t
unfolding gone_fine_at
returns-else-gone-t c = elim c.if-t-eq0.branch [
  | then-t-eq0 w ↦ absurd (true≢false (sym (eq-eqb c.args.t 0 w.if-t-eq0.true) ∙ sym w.value-is ∙ c.if-gone-t.false))
  | else-t-eq0 w ↦ rw (ne_eqb c.args.t 0 w.if-t-eq0.false, sym w.value-is ∙ c.if-gone-t.false) c.if-gone-t.false
]
