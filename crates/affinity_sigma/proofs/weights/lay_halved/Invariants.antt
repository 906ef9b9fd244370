-- `sigma::weights::lay_halved` meets its contract: t weights are written. Assumes nothing.
use mathlib.Core.Path.{◌≡◌}
use Prim.Native.Nat.{◌-◌}
use lib.ListN.{length}
use Rattle.laws.proofs.Loops.{Loops}
use Rattle.affinity_sigma.specs.Blocks.{halved_step}
use Rattle.affinity_sigma.proofs.weights.lay_halved.Given as goal

abbrev pub invariant-loop-t : goal.invariant-loop-t
invariant-loop-t l = (length l.shares ≡ length l.initial.shares) × Loops (halved_step l.distances l.j l.us l.ts) l.c l.initial.shares l.t l.shares
