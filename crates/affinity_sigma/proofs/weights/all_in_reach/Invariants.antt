-- `sigma::weights::all_in_reach` meets its contract: t exponents are tested. Assumes nothing.
use Prim.Native.Nat.{◌-◌, ◌≤◌}
use mathlib.Core.Path.{◌≡◌}
use Rattle.laws.specs.Loops.{every}
use Rattle.laws.specs.Area.{at}
use Rattle.affinity_sigma.specs.Blocks.{in_reach}
use Rattle.affinity_sigma.proofs.weights.all_in_reach.Given as goal

abbrev pub invariant-loop-t : goal.invariant-loop-t
invariant-loop-t l = (l.all ≡ every (λ i. in_reach (at l.xs i)) l.t) × (l.t ≤ 32)
