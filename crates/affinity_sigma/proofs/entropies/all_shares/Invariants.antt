-- `sigma::entropies::all_shares` meets its contract: t shares are tested. Assumes nothing.
use mathlib.Core.Path.{◌≡◌}
use Prim.Native.Nat.{◌+◌, ◌-◌, ◌≤◌}
use lib.Ieee.{le}
use Rattle.laws.specs.Loops.{every}
use Rattle.laws.specs.Area.{at, one64}
use Rattle.affinity_sigma.proofs.entropies.all_shares.Given as goal

abbrev pub invariant-loop-t : goal.invariant-loop-t
invariant-loop-t l = (l.all ≡ every (λ i. le (at l.shares (l.j + i)) one64) l.t) × (l.t ≤ l.c)
