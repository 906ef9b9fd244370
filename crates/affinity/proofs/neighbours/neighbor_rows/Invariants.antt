-- `affinity::neighbours::neighbor_rows` meets its contract: the loop keeps `Lays` and `Loops`; by `loop-start`, `loop-next`, `loop-done`, `lays-row`, `row_in`, `lays-start` and others.
-- `affinity::neighbours::neighbor_rows` meets its contract: i rows are laid in both areas, and the preparation rows hold what the last of them left. Assumes nothing.
use Rattle.affinity.specs.Steps.{shares_left, frames_left}
use Rattle.laws.proofs.Loops.{Loops}
use mathlib.Core.Path.{◌≡◌}
use lib.ListN.{length}
use Prim.Native.Nat.{◌-◌}
use Rattle.affinity.specs.Neighbours.{values_in, frames_in, neighbour_row}
use Rattle.laws.proofs.Laid.{Lays}
use Rattle.affinity.proofs.neighbours.neighbor_rows.Given as goal

abbrev pub invariant-loop-i : goal.invariant-loop-i
invariant-loop-i l = Lays l.k (λ j. values_in
    (neighbour_row l.table l.n l.f l.k l.perplexity j)) l.n l.initial.weights l.i l.weights × Lays l.k
    (λ j. frames_in (neighbour_row l.table l.n l.f l.k l.perplexity j)) l.n l.initial.indices l.i l.indices ×
    (length l.row_values ≡ length l.initial.row_values) × Loops (shares_left l.table l.n l.f l.k l.perplexity) l.n l.initial.row_values l.i l.row_values ×
    (length l.row_indices ≡ length l.initial.row_indices) × Loops (frames_left l.table l.n l.f l.k) l.n l.initial.row_indices l.i l.row_indices
