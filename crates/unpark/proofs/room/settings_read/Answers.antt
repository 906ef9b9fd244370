-- `unpark::room::settings_read` meets its contract: from what its calls promise.
use Rattle.unpark.specs.Unpark.{record_read, settings_read}
use Rattle.record_words.specs.RecordWords.{settings_of}
use Rattle.unpark.proofs.room.settings_read.Goals as goal

pub returns : goal.returns
unfolding settings_read settings_of record_read
returns c =
    rw (
      c.value_of-perplexity.ensures,
      c.value_of-rate.ensures,
      c.value_of-angle.ensures,
      c.value_of-minimum.ensures,
      c.method_of-method.ensures,
      c.word.ensures,
      c.word-2.ensures,
      c.word-3.ensures,
      c.word-4.ensures,
      c.word-5.ensures,
      c.word-6.ensures,
      c.word-7.ensures,
      c.word-8.ensures,
      c.word-9.ensures,
    )
