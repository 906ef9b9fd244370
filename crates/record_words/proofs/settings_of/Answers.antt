-- `record_words::settings_of` meets its contract: from what its calls promise.
use Rattle.record_words.specs.RecordWords.{settings_of}
use Rattle.record_words.proofs.settings_of.Goals as goal

pub returns : goal.returns
unfolding settings_of
returns c =
    rw (c.value_of-perplexity.ensures, c.value_of-rate.ensures, c.value_of-angle.ensures, c.value_of-minimum.ensures, c.method_of-method.ensures)
