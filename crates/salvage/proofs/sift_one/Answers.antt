-- `salvage::sift_one` meets its contract: the record is kept or told as the rule says. Assumes nothing.
use mathlib.Core.Path.{sym, ◌∙◌}
use borrow.Author.Tests.{eq-eqb, ne_eqb}
use Rattle.salvage.specs.Steps.{sift_step}
use Rattle.salvage.proofs.sift_one.Goals as goal

pub returns-then-k-eq0 : goal.returns-then-k-eq0
unfolding sift_step
returns-then-k-eq0 c =
    rw (eq-eqb _ _ (sym c.rule_after-k.ensures ∙ c.if-k-eq0.true), c.copy_record.ensures)

pub returns : goal.returns
unfolding sift_step
returns c =
    rw (ne_eqb _ _ (rw c.rule_after-k.ensures at c.if-k-eq0.false), c.rule_after-k.ensures)
