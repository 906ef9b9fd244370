-- `affinity::exact::conditional_probabilities` meets its contract: the loop keeps `Loops` and `Lays`; by `loop-start`, `loop-next`, `loop-done`, `row_in`, `lays-start`, `lays-next` and others.
-- `affinity::exact::conditional_probabilities` meets its contract: i rows of shares are laid, and the row holds the distances of the last. Assumes nothing.
use Rattle.affinity_distances.specs.Distances.{distance_row}
use Rattle.laws.proofs.Loops.{Loops}
use mathlib.Core.Path.{◌≡◌}
use lib.ListN.{length}
use Prim.Native.Nat.{◌-◌}
use Rattle.laws.proofs.Laid.{Lays}
use Rattle.affinity.specs.Steps.{conditionals}
use Rattle.affinity.proofs.exact.conditional_probabilities.Given as goal

abbrev pub invariant-loop-i : goal.invariant-loop-i
invariant-loop-i l = (length l.row ≡ length l.initial.row) × Loops (distance_row l.table l.n l.f) l.n l.initial.row l.i l.row ×
    Lays l.n (conditionals l.table l.n l.f l.perplexity) l.n l.initial.affinities l.i l.affinities
