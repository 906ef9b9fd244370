-- `take_lists::clear_between` meets its contract: the places from a up to p are cleared (`Blanks`). Assumes nothing.
use Rattle.take_lists.proofs.Fronting.{Blanks}
use Rattle.take_lists.proofs.clear_between.Given as goal

abbrev pub invariant-loop-p : goal.invariant-loop-p
invariant-loop-p g l = Blanks l.z l.initial.area l.a l.b l.p l.area
