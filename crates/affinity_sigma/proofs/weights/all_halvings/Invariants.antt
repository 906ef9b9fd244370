-- `sigma::weights::all_halvings` meets its contract: t exponents are done. Assumes nothing.
use Prim.Native.Nat.{◌-◌}
use Rattle.laws.proofs.Loops.{Loops}
use Rattle.affinity_sigma.specs.Blocks.{halving_step}
use Rattle.affinity_sigma.proofs.weights.all_halvings.Given as goal

abbrev pub invariant-loop-t : goal.invariant-loop-t
invariant-loop-t l = Loops (halving_step l.xs) 32 l.initial.us l.t l.us
