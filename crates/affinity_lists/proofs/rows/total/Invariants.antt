-- `lists::rows::total` meets its contract: the misses of j rows, each at most k, are added; with n·k they are the links. Assumes nothing.
use Rattle.laws.proofs.Sums.{Adds}
use Rattle.affinity_lists.specs.Steps.{misses_of}
use Rattle.affinity_lists.proofs.rows.total.Given as goal

abbrev pub invariant-loop-j : goal.invariant-loop-j
invariant-loop-j l = Adds (misses_of l.k l.indices) l.k l.n l.j l.c
