use mathlib.Core.Path.{sym}
use lib.Ieee.{ne}
use borrow.Author.Tests.{not-true, not-false}
use Rattle.laws.proofs.Every.{every-none, every-next, every-no, every-done}
use borrow.Author.Rules.{rules}
use Rattle.blind.proofs.looks.all_at_zero.Goals as goal

pub loop-j-init : goal.loop-j-init
loop-j-init c =
    (search rules, every-none _)

pub returns-then-distances-j : goal.returns-then-distances-j
unfolding ne
returns-then-distances-j c =
    sym (every-no _ _ _ c.loop-j-test.true (not-true _ c.if-distances-j.true))

pub loop-j-preserved : goal.loop-j-preserved
unfolding ne
loop-j-preserved c =
    (search rules, every-next _ _ c.loop-j.invariant.1 (not-false _ c.if-distances-j.false))

pub returns : goal.returns
returns c =
    every-done _ _ _ c.loop-j.invariant.1 c.loop-j.invariant.0 c.loop-j-test.false
