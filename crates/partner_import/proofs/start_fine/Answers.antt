use mathlib.Core.Path.{sym, ◌∙◌}
use Rattle.laws.proofs.Every.{every-none, every-next, every-no, every-done}
use native.Mathlib.Omega.{arith}
use Rattle.partner_import.proofs.start_fine.Goals as goal

pub loop-i-init : goal.loop-i-init
loop-i-init c =
    (every-none _, omega arith)

pub returns-then-not-in_domain : goal.returns-then-not-in_domain
returns-then-not-in_domain c =
    sym (every-no _ _ c.loop-i.i c.loop-i-test.true (sym (rw c.value_of.ensures at c.in_domain.ensures) ∙ c.if-not-in_domain.true))

pub loop-i-preserved : goal.loop-i-preserved
loop-i-preserved c = (
  every-next _ _ c.loop-i.invariant.0 (sym (rw c.value_of.ensures at c.in_domain.ensures) ∙ c.if-not-in_domain.false),
  omega
      (arith, c.loop-i-test.true),
)

pub returns : goal.returns
returns c =
    every-done _ _ _ c.loop-i.invariant.0 c.loop-i.invariant.1 c.loop-i-test.false
