use Rattle.laws.proofs.Every.{every-none, every-next, every-no, every-done}
use mathlib.Core.Path.{sym, ◌∙◌}
use native.Mathlib.Omega.{arith}
use Rattle.take_calm.proofs.is_calm_row.Goals as goal

pub loop-d-init : goal.loop-d-init
loop-d-init c =
    (every-none _, omega arith)

pub returns-then-not-is_calm : goal.returns-then-not-is_calm
returns-then-not-is_calm c =
    sym (every-no _ _ c.loop-d.d c.loop-d-test.true (sym c.is_calm.ensures ∙ c.if-not-is_calm.true))

pub loop-d-preserved : goal.loop-d-preserved
loop-d-preserved c =
    (every-next _ _ c.loop-d.invariant.0 (sym c.is_calm.ensures ∙ c.if-not-is_calm.false), omega (arith, c.loop-d-test.true))

pub returns : goal.returns
returns c =
    every-done _ _ _ c.loop-d.invariant.0 c.loop-d.invariant.1 c.loop-d-test.false
