use Rattle.laws.proofs.Every.{every-none, every-next, every-no, every-done}
use mathlib.Core.Path.{sym, ◌∙◌}
use native.Mathlib.Omega.{arith}
use Rattle.take_gone.proofs.gone_fine.Goals as goal

pub loop-t-init : goal.loop-t-init
loop-t-init c =
    (every-none _, omega arith)

pub returns-then-not-gone_fine_at : goal.returns-then-not-gone_fine_at
returns-then-not-gone_fine_at c =
    let the-loop-test = c.loop-t-test in
    let the-loop = c.loop-t in
    sym (every-no _ _ the-loop.t the-loop-test.true (sym c.gone_fine_at.ensures ∙ c.if-not-gone_fine_at.true))

pub loop-t-preserved : goal.loop-t-preserved
loop-t-preserved c =
    let the-loop-test = c.loop-t-test in
    let the-loop = c.loop-t in
    (every-next _ _ the-loop.invariant.0 (sym c.gone_fine_at.ensures ∙ c.if-not-gone_fine_at.false), omega (arith, the-loop-test.true))

pub returns : goal.returns
returns c =
    every-done _ _ _ c.loop-t.invariant.0 c.loop-t.invariant.1 c.loop-t-test.false
