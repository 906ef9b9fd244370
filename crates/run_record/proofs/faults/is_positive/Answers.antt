-- `run_record::faults::is_positive` meets its contract: each need follows from its own premises.
use Rattle.run_record.specs.Record.{positive}
use Rattle.run_record.proofs.faults.is_positive.Goals as goal

pub returns-then-x : goal.returns-then-x
unfolding positive
returns-then-x c = simp c.if-x.true

pub returns-else-x : goal.returns-else-x
unfolding positive
returns-else-x c = simp c.if-x.false
