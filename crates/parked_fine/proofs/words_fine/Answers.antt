use Rattle.laws.proofs.Every.{every-none, every-next, every-no, every-done}
use mathlib.Core.Path.{sym, ◌∙◌}
use native.Mathlib.Omega.{arith}
use Rattle.parked_fine.proofs.words_fine.Goals as goal

pub loop-k-init : goal.loop-k-init
loop-k-init c =
    (omega arith, every-none _)

pub returns-then-not-word_fine : goal.returns-then-not-word_fine
returns-then-not-word_fine c =
    sym (every-no _ 4 _ c.loop-k-test.true (sym c.word_fine.ensures ∙ c.if-not-word_fine.true))

pub loop-k-preserved : goal.loop-k-preserved
loop-k-preserved c =
    (omega arith, every-next _ _ c.loop-k.invariant.1 (sym c.word_fine.ensures ∙ c.if-not-word_fine.false))

pub returns : goal.returns
returns c =
    every-done _ 4 _ c.loop-k.invariant.1 c.loop-k.invariant.0 c.loop-k-test.false
