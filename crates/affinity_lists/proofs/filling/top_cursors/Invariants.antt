-- `affinity_lists::filling::top_cursors` meets its contract: j cursors are set (`Topping`). Assumes nothing.
use Rattle.affinity_lists.proofs.Topping.{Topping}
use Rattle.affinity_lists.proofs.filling.top_cursors.Given as goal

abbrev pub invariant-loop-j : goal.invariant-loop-j
invariant-loop-j l = Topping l.indices l.initial.row_indices l.n l.k l.j l.row_indices
