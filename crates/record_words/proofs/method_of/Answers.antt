-- `record_words::method_of` meets its contract: each need follows from its own premises.
use borrow.Author.Tests.{eq-eqb, ne_eqb}
use Rattle.record_words.specs.RecordWords.{method_of}
use Rattle.record_words.proofs.method_of.Goals as goal

pub returns-then-w-eq0 : goal.returns-then-w-eq0
unfolding method_of
returns-then-w-eq0 c =
    rw (eq-eqb _ _ c.if-w-eq0.true)

pub returns : goal.returns
unfolding method_of
returns c =
    rw (ne_eqb _ _ c.if-w-eq0.false)
