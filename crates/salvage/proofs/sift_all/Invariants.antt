-- `salvage::sift_all` meets its contract: i records are sifted. Assumes nothing.
use Rattle.salvage.proofs.Sifted.{Sifted}
use Prim.Native.Nat.{◌-◌}
use Rattle.salvage.specs.Steps.{sifting}
use Rattle.salvage.proofs.sift_all.Given as goal

abbrev pub invariant-loop-i : goal.invariant-loop-i
invariant-loop-i l = Sifted l.file l.initial.good l.initial.places l.initial.rules l.i (sifting l.s l.good l.places l.rules)
