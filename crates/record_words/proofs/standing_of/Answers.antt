-- `record_words::standing_of` meets its contract: each need follows from its own premises.
use borrow.Author.Tests.{eq-eqb, ne_eqb}
use Rattle.record_words.specs.RecordWords.{standing_of}
use Rattle.record_words.proofs.standing_of.Goals as goal

pub returns-then-w-eq0 : goal.returns-then-w-eq0
unfolding standing_of
returns-then-w-eq0 c =
    rw (eq-eqb _ _ c.if-w-eq0.true)

pub returns-then-w-eq1 : goal.returns-then-w-eq1
unfolding standing_of
returns-then-w-eq1 c =
    rw (ne_eqb _ _ c.if-w-eq0.false, eq-eqb _ _ c.if-w-eq1.true)

pub returns : goal.returns
unfolding standing_of
returns c =
    rw (ne_eqb _ _ c.if-w-eq0.false, ne_eqb _ _ c.if-w-eq1.false)
