use Rattle.partner.proofs.Mirrors.{met_next}
use mathlib.Core.Path.{sym, ◌∙◌}
use Rattle.partner.proofs.Mirrors.{met_some, met-none}
use native.Mathlib.Omega.{arith}
use Rattle.partner.proofs.is_met_anywhere.Goals as goal

pub loop-t-init : goal.loop-t-init
loop-t-init c =
    (omega arith, λ s l. absurd (omega arith))

pub is_mirror-requires : goal.is_mirror-requires
is_mirror-requires c =
    (c.requires.0, omega (arith, c.loop-t-test.true, c.requires.1))

pub returns-then-is_mirror : goal.returns-then-is_mirror
returns-then-is_mirror c =
    sym (met_some _ _ _ _ _ c.loop-t-test.true (sym c.is_mirror.ensures ∙ c.if-is_mirror.true))

pub loop-t-preserved : goal.loop-t-preserved
loop-t-preserved c =
    (omega (arith, c.loop-t-test.true), met_next _ _ _ 0 _ c.loop-t.invariant.1 (sym c.is_mirror.ensures ∙ c.if-is_mirror.false))

pub returns : goal.returns
returns c =
    sym (met-none _ _ _ _ (λ s l. c.loop-t.invariant.1 s (omega (arith, c.loop-t-test.false))))
