-- `take_lists::pack_list` meets its contract: of t links those that are left stand from q on (`Sifts`). Assumes nothing.
use Rattle.take_lists.proofs.OneList.{Sifts}
use Rattle.take_lists.proofs.pack_list.Given as goal

abbrev pub invariant-loop-t : goal.invariant-loop-t
invariant-loop-t l = Sifts l.keep l.initial.weights l.initial.indices l.a l.k l.q l.t l.e l.weights l.indices
