-- `replay_affinity::joins::row_right` meets its contract: the loop keeps `Risen`; by `row_in`, `risen-none`, `risen-next`, `row-there`, `all_done`.
use Rattle.std.proofs.Common.{◌+◌, ◌-◌, ◌*◌, ◌≤◌}
use Rattle.laws.specs.Area.{num}
use Rattle.replay_affinity.proofs.Rowing.{Risen}
use Rattle.replay_affinity.proofs.joins.row_right.Given as goal

abbrev pub invariant-loop-t : goal.invariant-loop-t
invariant-loop-t l = (l.t ≤ l.k) × Risen l.n l.t l.i l.low (λ s. num l.indices (l.i * l.k + s))
