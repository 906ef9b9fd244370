-- `affinity::exact::join_frame` meets its contract: j lower frames are joined, then the own place. Assumes nothing.
use lib.ListN.{length}
use mathlib.Core.Path.{◌≡◌}
use Rattle.laws.proofs.Loops.{Loops}
use Rattle.affinity_joins.specs.Joins.{pair_step}
use Prim.Native.Nat.{◌-◌}
use Rattle.affinity_joins.proofs.join_frame.Given as goal

abbrev pub invariant-loop-j : goal.invariant-loop-j
invariant-loop-j l = (length l.affinities ≡ length l.initial.affinities) × Loops (pair_step l.n l.norm l.i) l.i l.initial.affinities l.j l.affinities
