-- `affinity_lists::filling::fill_list` meets its contract: from j on list i is written, the part that is left gives the whole, and the cursors from j on have fallen (`Listing`). Assumes nothing.
-- where a link is found there is room for it
use Rattle.affinity_lists.proofs.Listing.{Writing}
use Rattle.affinity_lists.proofs.filling.fill_list.Given as goal

abbrev pub invariant-loop-j : goal.invariant-loop-j
invariant-loop-j l = Writing l.initial.weights l.initial.indices l.offsets l.initial.row_indices l.n l.k l.i l.e l.j l.c l.q l.m l.weights l.indices l.row_indices
