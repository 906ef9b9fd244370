-- A byte of each record: the loop of the laws that fills an area's front.
use Rattle.monitor_read.specs.MonitorRead.{byte_at}
use Rattle.areas.proofs.Fetched.{Fetches}
use Rattle.monitor_read.proofs.fetch_bytes.Given as goal

abbrev pub invariant-loop-i : goal.invariant-loop-i
invariant-loop-i l = Fetches (byte_at l.file l.d) l.n l.initial.area l.i l.area
