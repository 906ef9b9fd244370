-- `sigma::entropies::add_singly` meets its contract: t terms are added, from j on. Assumes nothing.
use Prim.Native.Nat.{◌+◌, ◌-◌}
use Rattle.laws.proofs.Loops.{Loops}
use Rattle.affinity_sigma.specs.Sigma.{entropy_step}
use Rattle.affinity_sigma.proofs.entropies.add_singly.Given as goal

abbrev pub invariant-loop-t : goal.invariant-loop-t
invariant-loop-t l = Loops (λ i. entropy_step l.shares (l.j + i)) l.c l.initial.h l.t l.h
