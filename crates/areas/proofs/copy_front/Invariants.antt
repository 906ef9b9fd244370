-- `areas::copy_front` meets its contract: t places are copied. Assumes nothing.
use Rattle.laws.proofs.Parts.{Copies}
use Rattle.areas.proofs.copy_front.Given as goal

abbrev pub invariant-loop-t : goal.invariant-loop-t
invariant-loop-t g l = Copies l.from l.initial.to l.a l.k l.t l.to
