-- The first faulty frame: the loop of the laws that looks for the least place at which a test holds.
use Rattle.laws.proofs.First.{Seeks}
use Rattle.monitor_write.specs.MonitorWrite.{faulty_at}
use Rattle.monitor_write.proofs.first_faulty.Given as goal

abbrev pub invariant-loop-i : goal.invariant-loop-i
invariant-loop-i l = Seeks (faulty_at l.pictures l.sides l.fields l.positions) l.n l.i
