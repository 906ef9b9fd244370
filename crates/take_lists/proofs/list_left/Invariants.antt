-- `take_lists::list_left` meets its contract: t links are looked at (`Sees`). Assumes nothing.
use Rattle.take_lists.proofs.Counting.{Sees}
use Rattle.take_lists.proofs.list_left.Given as goal

abbrev pub invariant-loop-t : goal.invariant-loop-t
invariant-loop-t l = Sees l.gone l.indices l.a l.k l.t l.c
