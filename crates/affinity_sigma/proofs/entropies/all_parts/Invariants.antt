-- `sigma::entropies::all_parts` meets its contract: t shares are taken apart. Assumes nothing.
use Prim.Native.Nat.{◌-◌}
use Rattle.laws.proofs.Loops.{Loops}
use Rattle.affinity_sigma.specs.Blocks.{digit_step, power_step}
use Rattle.affinity_sigma.proofs.entropies.all_parts.Given as goal

abbrev pub invariant-loop-t : goal.invariant-loop-t
invariant-loop-t l = Loops (digit_step l.shares l.j) l.c l.initial.ms l.t l.ms × Loops (power_step l.shares l.j) l.c l.initial.ks l.t l.ks
