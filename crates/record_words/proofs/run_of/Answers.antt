-- `record_words::run_of` meets its contract: from what its calls promise.
use Rattle.record_words.specs.RecordWords.{run_of}
use Rattle.record_words.proofs.run_of.Goals as goal

pub returns : goal.returns
unfolding run_of
returns c =
    rw (c.settings_of-settings.ensures, c.standing_of-standing.ensures)
