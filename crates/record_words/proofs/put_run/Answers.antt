-- `record_words::put_run` meets its contract: from what its calls promise.
use Rattle.record_words.specs.RecordWords.{run_put}
use Rattle.record_words.proofs.put_run.Goals as goal

pub returns : goal.returns
unfolding run_put
returns c =
    rw (c.put_progress.ensures, c.put_settings.ensures)
