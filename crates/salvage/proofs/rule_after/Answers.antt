-- `salvage::rule_after` meets its contract: each return, by the tests that led there. Assumes nothing.
use mathlib.Core.Path.{sym, ◌∙◌}
use borrow.Author.Tests.{eq-eqb, ne_eqb}
use Rattle.salvage.specs.Salvage.{rule_after}
use Rattle.salvage.proofs.rule_after.Goals as goal

pub returns-then-k-ne0 : goal.returns-then-k-ne0
unfolding rule_after
returns-then-k-ne0 c =
    rw (ne_eqb _ _ (rw c.rule_alone-k.ensures at c.if-k-ne0.true)) c.rule_alone-k.ensures

pub returns-then-follows_last : goal.returns-then-follows_last
unfolding rule_after
returns-then-follows_last c =
    rw (eq-eqb _ _ (sym c.rule_alone-k.ensures ∙ c.if-k-ne0.false), sym c.follows_last.ensures ∙ c.if-follows_last.true)

pub returns : goal.returns
unfolding rule_after
returns c =
    rw (eq-eqb _ _ (sym c.rule_alone-k.ensures ∙ c.if-k-ne0.false), sym c.follows_last.ensures ∙ c.if-follows_last.false)
