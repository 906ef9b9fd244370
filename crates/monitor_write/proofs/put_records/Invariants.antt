-- The records laid one after the other: the loop of the laws on rows, sixteen bytes wide.
use Rattle.laws.proofs.Laid.{Lays}
use Rattle.monitor_write.specs.MonitorWrite.{monitor_row}
use Rattle.monitor_write.proofs.put_records.Given as goal

abbrev pub invariant-loop-i : goal.invariant-loop-i
invariant-loop-i l = Lays 16 (monitor_row l.pictures l.sides l.fields l.positions) l.n l.initial.target l.i l.target
