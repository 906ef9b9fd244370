use Rattle.hand_out.specs.HandOut.{calm_along}
use Rattle.laws.proofs.Every.{every-none, every-next, every-no, every-done}
use mathlib.Core.Path.{sym, ◌∙◌}
use native.Mathlib.Omega.{arith}
use Rattle.hand_out.proofs.is_calm_along.Goals as goal

pub loop-i-init : goal.loop-i-init
loop-i-init c =
    (omega arith, every-none _)

pub returns-then-not-is_calm : goal.returns-then-not-is_calm
unfolding calm_along
returns-then-not-is_calm c =
    sym (every-no _ _ _ c.loop-i-test.true (sym c.is_calm.ensures ∙ c.if-not-is_calm.true))

pub loop-i-preserved : goal.loop-i-preserved
loop-i-preserved c =
    (omega arith, every-next _ _ c.loop-i.invariant.1 (sym c.is_calm.ensures ∙ c.if-not-is_calm.false))

pub returns : goal.returns
unfolding calm_along
returns c =
    every-done _ _ _ c.loop-i.invariant.1 c.loop-i.invariant.0 c.loop-i-test.false
