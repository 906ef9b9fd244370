-- `run_record::faults::is_inside` meets its contract: each need follows from its own premises.
use Rattle.run_record.specs.Record.{angle_fine}
use Rattle.run_record.proofs.faults.is_inside.Goals as goal

pub returns-then-a : goal.returns-then-a
unfolding angle_fine
returns-then-a c = simp c.if-a.true

pub returns-else-a : goal.returns-else-a
unfolding angle_fine
returns-else-a c = simp c.if-a.false
