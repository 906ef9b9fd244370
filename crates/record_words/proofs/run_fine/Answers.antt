-- `record_words::run_fine` meets its contract: from what its calls promise.
use mathlib.Core.Path.{sym, ◌∙◌}
use borrow.Author.Tests.{le-leb, lt-leb}
use Rattle.record_words.specs.RecordWords.{run_fine}
use Rattle.record_words.proofs.run_fine.Goals as goal

pub returns-then-words-lt14 : goal.returns-then-words-lt14
unfolding run_fine
returns-then-words-lt14 c =
    rw (lt-leb _ _ c.if-words-lt14.true)

pub returns-then-not-settings_fine : goal.returns-then-not-settings_fine
unfolding run_fine
returns-then-not-settings_fine c =
    rw (le-leb _ _ c.if-words-lt14.false, sym c.settings_fine.ensures ∙ c.if-not-settings_fine.true)

pub returns : goal.returns
unfolding run_fine
returns c =
    rw (le-leb _ _ c.if-words-lt14.false, sym c.settings_fine.ensures ∙ c.if-not-settings_fine.false)
