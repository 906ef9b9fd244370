-- `near::distances::distance_row` meets its contract: after those by fours the rest is written, then the own distance. Assumes nothing.
use mathlib.Core.Path.{◌≡◌}
use mathlib.Core.List.{List}
use Prim.Native.Nat.{◌-◌}
use lib.ListN.{length}
use lib.Ieee.{Float}
use Rattle.laws.proofs.Loops.{Loops}
use Rattle.affinity_distances.specs.Distances.{distance_step}
use Rattle.affinity_distances.proofs.distance_row.Given as goal

abbrev pub invariant-loop-j : goal.invariant-loop-j
invariant-loop-j l = (length l.row ≡ length l.initial.row) ×
    ((y : List Float) → Loops (distance_step l.table l.f l.i) l.n y l.initial.j l.initial.row → Loops (distance_step l.table l.f l.i) l.n y l.j l.row)
