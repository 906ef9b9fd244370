use mathlib.Core.Path.{sym, ◌∙◌}
use Rattle.laws.proofs.Every.{every-none, every-next, every-no, every-done}
use Rattle.frames.specs.Frames.{values_fine}
use native.Mathlib.Omega.{arith}
use Rattle.frames.proofs.values_fine.Goals as goal

pub loop-k-init : goal.loop-k-init
loop-k-init c =
    (omega arith, every-none _)

pub returns-then-not-in_domain : goal.returns-then-not-in_domain
unfolding values_fine
returns-then-not-in_domain c =
    sym (every-no _ 8 _ c.loop-k-test.true (rw c.value-v.ensures at (sym c.in_domain.ensures ∙ c.if-not-in_domain.true)))

pub loop-k-preserved : goal.loop-k-preserved
loop-k-preserved c =
    (omega arith, every-next _ _ c.loop-k.invariant.1 (rw c.value-v.ensures at (sym c.in_domain.ensures ∙ c.if-not-in_domain.false)))

pub returns : goal.returns
unfolding values_fine
returns c =
    every-done _ 8 _ c.loop-k.invariant.1 c.loop-k.invariant.0 c.loop-k-test.false
