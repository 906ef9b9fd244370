-- `replay_affinity::joins::rows_right` meets its contract: the loop keeps `Rowed`; by `rows_none`, `all_done`.
use Rattle.std.proofs.Common.{◌-◌, ◌≤◌}
use Rattle.affinity_lists.specs.Lists.{Rowed}
use Rattle.replay_affinity.proofs.joins.rows_right.Given as goal

abbrev pub invariant-loop-i : goal.invariant-loop-i
invariant-loop-i l = (l.i ≤ l.n) × Rowed l.i l.n l.k l.indices
