-- `run_record::counters::state_fits` meets its contract: from what its calls promise.
use Rattle.run_record.specs.Record.{state_fits}
use mathlib.Core.Path.{refl}
use Rattle.run_record.proofs.counters.state_fits.Goals as goal

pub returns-in-Running : goal.returns-in-Running
unfolding state_fits
returns-in-Running c =
    rw c.in-Running.is refl

pub returns-in-Stopped : goal.returns-in-Stopped
unfolding state_fits
returns-in-Stopped c =
    rw (c.stopped_fits.ensures, c.in-Stopped.is) refl

pub returns-in-Finished : goal.returns-in-Finished
unfolding state_fits
returns-in-Finished c =
    rw (c.finished_fits.ensures, c.in-Finished.is) refl
