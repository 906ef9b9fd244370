-- `sigma::weights::weigh_singly` meets its contract: t weights are written, from j on. Assumes nothing.
use mathlib.Core.Path.{◌≡◌}
use Prim.Native.Nat.{◌+◌, ◌-◌}
use lib.ListN.{length}
use Rattle.laws.proofs.Loops.{Loops}
use Rattle.affinity_sigma.specs.Sigma.{weigh_step}
use Rattle.affinity_sigma.proofs.weights.weigh_singly.Given as goal

abbrev pub invariant-loop-t : goal.invariant-loop-t
invariant-loop-t l = (length l.shares ≡ length l.initial.shares) × Loops (λ i. weigh_step l.distances l.sigma (l.j + i)) l.c l.initial.shares l.t l.shares
