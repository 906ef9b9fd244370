-- The first bad record: the loop of the laws that looks for the least place at which a test holds.
use Rattle.laws.proofs.First.{Seeks}
use Rattle.monitor_read.specs.MonitorRead.{broken_at, whole_monitor}
use Rattle.monitor_read.proofs.first_broken.Given as goal

abbrev pub invariant-loop-i : goal.invariant-loop-i
invariant-loop-i l = Seeks (broken_at l.file) (whole_monitor l.file) l.i
