-- `lists::rows::misses` meets its contract: t terms, each at most 1, are added. Assumes nothing.
use Rattle.laws.proofs.Sums.{Adds}
use Rattle.affinity_lists.specs.Steps.{miss_of}
use Rattle.affinity_lists.proofs.rows.misses.Given as goal

abbrev pub invariant-loop-t : goal.invariant-loop-t
invariant-loop-t l = Adds (miss_of l.k l.indices l.j) 1 l.k l.t l.c
