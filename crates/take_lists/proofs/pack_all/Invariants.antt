-- `take_lists::pack_all` meets its contract: i lists stand at the front, one after the other, and their offsets (`Closes`); an offset fits its width. Assumes nothing.
use lib.ListN.{get_or}
use Rattle.take_lists.proofs.AllLists.{Closes}
use Prim.Native.Nat.{ℕ, ◌^◌, ◌<◌}
use Rattle.take_lists.proofs.pack_all.Given as goal

abbrev pub invariant-loop-i : goal.invariant-loop-i
invariant-loop-i l = Closes l.keep l.initial.weights l.initial.indices l.initial.offsets l.i l.q l.weights l.indices l.offsets × ((k : ℕ) → get_or l.initial.offsets k 0 < 2 ^ 32)
