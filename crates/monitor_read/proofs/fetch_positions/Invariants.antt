-- The coordinates, widened: the loop of the laws that fills an area's front.
use Rattle.monitor_read.specs.MonitorRead.{widened_at}
use Prim.Native.Nat.{◌*◌}
use Rattle.areas.proofs.Fetched.{Fetches}
use Rattle.monitor_read.proofs.fetch_positions.Given as goal

abbrev pub invariant-loop-j : goal.invariant-loop-j
invariant-loop-j l = Fetches (widened_at l.file) (2 * l.n) l.initial.area l.j l.area
