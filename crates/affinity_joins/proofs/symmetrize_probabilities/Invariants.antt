-- `affinity::exact::symmetrize_probabilities` meets its contract: i frames are joined with their lower ones. Assumes nothing.
use Rattle.laws.proofs.Loops.{Loops}
use Rattle.affinity_joins.specs.Joins.{frame_joined}
use mathlib.Core.Path.{◌≡◌}
use Prim.Native.Nat.{◌-◌}
use lib.ListN.{length}
use Rattle.affinity_joins.proofs.symmetrize_probabilities.Given as goal

abbrev pub invariant-loop-i : goal.invariant-loop-i
invariant-loop-i l = (length l.affinities ≡ length l.initial.affinities) × Loops (frame_joined l.n l.norm) l.n l.initial.affinities l.i l.affinities
