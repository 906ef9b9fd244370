-- `sigma::weights::exponents` meets its contract: t exponents are written. Assumes nothing.
use Prim.Native.Nat.{◌-◌}
use Rattle.laws.proofs.Loops.{Loops}
use Rattle.affinity_sigma.specs.Blocks.{exponent_step}
use Rattle.affinity_sigma.proofs.weights.exponents.Given as goal

abbrev pub invariant-loop-t : goal.invariant-loop-t
invariant-loop-t l = Loops (exponent_step l.distances l.j l.sigma) l.c l.initial.xs l.t l.xs
