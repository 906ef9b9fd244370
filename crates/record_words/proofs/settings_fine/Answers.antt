-- `record_words::settings_fine` meets its contract: each need follows from its own premises.
use borrow.Author.Tests.{le-leb, lt-leb}
use Rattle.record_words.specs.RecordWords.{settings_fine}
use Rattle.record_words.proofs.settings_fine.Goals as goal

pub returns-then-words-lt9 : goal.returns-then-words-lt9
unfolding settings_fine
returns-then-words-lt9 c =
    rw (lt-leb _ _ c.if-words-lt9.true)

pub returns : goal.returns
unfolding settings_fine
returns c =
    rw (le-leb _ _ c.if-words-lt9.false)
