-- `run_record::counters::finished_fits` meets its contract: each need follows from its own premises.
use borrow.Author.Tests.{eq-eqb, ne_eqb}
use Rattle.run_record.specs.Record.{state_fits}
use Rattle.run_record.proofs.counters.finished_fits.Goals as goal

pub returns-then-done-set : goal.returns-then-done-set
unfolding state_fits
returns-then-done-set c = rw (eq-eqb _ _ c.if-done-set.true)

pub returns-else-done-set : goal.returns-else-done-set
unfolding state_fits
returns-else-done-set c = rw (ne_eqb _ _ c.if-done-set.false)
