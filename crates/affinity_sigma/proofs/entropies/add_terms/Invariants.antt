-- `sigma::entropies::add_terms` meets its contract: t terms are added. Assumes nothing.
use Prim.Native.Nat.{◌-◌}
use Rattle.laws.proofs.Loops.{Loops}
use Rattle.affinity_sigma.specs.Blocks.{term_step}
use Rattle.affinity_sigma.proofs.entropies.add_terms.Given as goal

abbrev pub invariant-loop-t : goal.invariant-loop-t
invariant-loop-t l = Loops (term_step l.shares l.j l.ls) l.c l.initial.h l.t l.h
