-- `sigma::total` meets its contract: j weights are added. Assumes nothing.
use Rattle.affinity_sigma.specs.Sigma.{weight_step}
use Prim.Native.Nat.{◌-◌}
use Rattle.laws.proofs.Loops.{Loops}
use Rattle.affinity_sigma.proofs.total.Given as goal

abbrev pub invariant-loop-j : goal.invariant-loop-j
invariant-loop-j l = Loops (weight_step l.shares) l.n l.initial.sum l.j l.sum
