use Rattle.laws.proofs.Every.{every-none, every-next, every-no, every-done}
use mathlib.Core.Path.{sym, ◌∙◌}
use borrow.Author.Rules.{rules}
use Rattle.prepare.proofs.all_in.Goals as goal

pub loop-i-init : goal.loop-i-init
loop-i-init c =
    (search rules, every-none _)

pub returns-then-not-in_domain : goal.returns-then-not-in_domain
returns-then-not-in_domain c =
    sym (every-no _ _ _ c.loop-i-test.true (sym c.in_domain.ensures ∙ c.if-not-in_domain.true))

pub loop-i-preserved : goal.loop-i-preserved
loop-i-preserved c =
    (search rules, every-next _ _ c.loop-i.invariant.1 (sym c.in_domain.ensures ∙ c.if-not-in_domain.false))

pub returns : goal.returns
returns c =
    every-done _ _ _ c.loop-i.invariant.1 c.loop-i.invariant.0 c.loop-i-test.false
