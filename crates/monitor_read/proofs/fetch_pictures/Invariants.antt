-- The pictures, one after the other: the loop of the laws that fills an area's front.
use Rattle.monitor_read.specs.MonitorRead.{monitor_picture}
use Rattle.areas.proofs.Fetched.{Fetches}
use Rattle.monitor_read.proofs.fetch_pictures.Given as goal

abbrev pub invariant-loop-i : goal.invariant-loop-i
invariant-loop-i l = Fetches (monitor_picture l.file) l.n l.initial.area l.i l.area
