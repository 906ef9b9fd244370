-- `take_lists::links_left` meets its contract: the lists of j frames are looked at (`Tallies`). Assumes nothing.
use Rattle.take_gone.specs.Gone.{Abreast}
use Rattle.take_lists.proofs.Counting.{Tallies}
use Rattle.take_lists.proofs.links_left.Given as goal

abbrev pub invariant-loop-j : goal.invariant-loop-j
invariant-loop-j l = Tallies l.gone l.indices l.offsets l.n l.j l.c × Abreast l.gone l.g l.j
