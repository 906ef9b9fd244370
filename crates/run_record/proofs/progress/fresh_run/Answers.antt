-- `run_record::progress::fresh_run` meets its contract: each need follows from its own premises.
use mathlib.Core.Path.{refl}
use Rattle.run_record.specs.Record.{fresh_run}
use Rattle.run_record.proofs.progress.fresh_run.Goals as goal

pub returns : goal.returns
unfolding fresh_run
returns c =
    refl
