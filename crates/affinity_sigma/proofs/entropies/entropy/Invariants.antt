-- `sigma::entropies::entropy` meets its contract: j shares have entered, a block in each turn. Assumes nothing.
use Prim.Native.Nat.{◌-◌}
use Rattle.laws.proofs.Loops.{Loops}
use Rattle.affinity_sigma.specs.Sigma.{entropy_step}
use Rattle.affinity_sigma.proofs.entropies.entropy.Given as goal

abbrev pub invariant-loop-j : goal.invariant-loop-j
invariant-loop-j l = Loops (entropy_step l.shares) l.n l.initial.h l.j l.h

abbrev pub decreases-loop-j : goal.decreases-loop-j
decreases-loop-j l = l.n - l.j
