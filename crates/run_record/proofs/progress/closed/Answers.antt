-- `run_record::progress::closed` meets its contract: from what its calls promise.
use Rattle.run_record.specs.Record.{closed_of}
use Rattle.run_record.proofs.progress.closed.Goals as goal

pub returns : goal.returns
unfolding closed_of
returns c = rw c.standing_after.ensures
