-- An answer without a word is 12 and keeps what it has; else its first word and the number are those of the fault.
use borrow.Author.Tests.{eq-eqb, ne_eqb}
use Rattle.fault_words.specs.FaultWords.{unfit_told}
use Rattle.fault_words.proofs.put_unfit.Goals as goal

pub returns-then-answer-eq0 : goal.returns-then-answer-eq0
unfolding unfit_told
returns-then-answer-eq0 c =
    rw (eq-eqb _ _ c.if-answer-eq0.true)

pub returns : goal.returns
unfolding unfit_told
returns c =
    rw (ne_eqb _ _ c.if-answer-eq0.false, c.number.ensures, c.fault_value.ensures, c.unread_fault-f.ensures)
