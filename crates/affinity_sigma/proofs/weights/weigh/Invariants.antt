-- `sigma::weights::weigh` meets its contract: j weights are written, a block in each turn. Assumes nothing.
use mathlib.Core.Path.{◌≡◌}
use Prim.Native.Nat.{◌-◌}
use lib.ListN.{length}
use Rattle.laws.proofs.Loops.{Loops}
use Rattle.affinity_sigma.specs.Sigma.{weigh_step}
use Rattle.affinity_sigma.proofs.weights.weigh.Given as goal

abbrev pub invariant-loop-j : goal.invariant-loop-j
invariant-loop-j l = (length l.shares ≡ length l.initial.shares) × Loops (weigh_step l.distances l.sigma) l.n l.initial.shares l.j l.shares

abbrev pub decreases-loop-j : goal.decreases-loop-j
decreases-loop-j l = l.n - l.j
