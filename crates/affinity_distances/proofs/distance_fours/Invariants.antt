-- `near::distances::distance_fours` meets its contract: j distances are written, four in each turn. Assumes nothing.
use mathlib.Core.Path.{◌≡◌}
use Prim.Native.Nat.{◌-◌, ◌≤◌}
use lib.ListN.{length}
use Rattle.laws.specs.Loops.{loop}
use Rattle.affinity_distances.specs.Distances.{distance_step}
use Rattle.affinity_distances.proofs.distance_fours.Given as goal

abbrev pub invariant-loop-j : goal.invariant-loop-j
invariant-loop-j l = (l.j ≤ l.n) × (length l.row ≡ length l.initial.row) × (l.row ≡ loop (distance_step l.table l.f l.i) l.j 0 l.initial.row)

abbrev pub decreases-loop-j : goal.decreases-loop-j
decreases-loop-j l = l.n - l.j
