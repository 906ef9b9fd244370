-- Words that are a record are tested as it is, and of others is told what is wrong with them.
use mathlib.Core.Path.{sym, ◌∙◌}
use Rattle.record_words.proofs.Laws.{run_long}
use Rattle.words_entry.specs.WordsEntry.{words_fault}
use Rattle.words_entry.proofs.words_fault.Goals as goal

pub run_of-requires : goal.run_of-requires
run_of-requires c =
    run_long _ (sym c.run_fine.ensures ∙ c.if-run_fine.true)

pub returns-then-run_fine : goal.returns-then-run_fine
unfolding words_fault
returns-then-run_fine c =
    rw (sym c.run_fine.ensures ∙ c.if-run_fine.true, c.fault_at.ensures, c.run_of.ensures)

pub returns : goal.returns
unfolding words_fault
returns c =
    rw (sym c.run_fine.ensures ∙ c.if-run_fine.false, c.unread_fault.ensures)
