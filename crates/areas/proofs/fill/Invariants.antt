-- `areas::fill` meets its contract: t places are filled. Assumes nothing.
use Rattle.laws.proofs.Parts.{Clears}
use Rattle.areas.proofs.fill.Given as goal

abbrev pub invariant-loop-t : goal.invariant-loop-t
invariant-loop-t g l = Clears l.x l.initial.area l.n l.t l.area
