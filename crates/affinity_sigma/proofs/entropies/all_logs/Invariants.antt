-- `sigma::entropies::all_logs` meets its contract: t logarithms are written. Assumes nothing.
use Prim.Native.Nat.{◌-◌}
use Rattle.laws.proofs.Loops.{Loops}
use Rattle.affinity_sigma.specs.Blocks.{log_step}
use Rattle.affinity_sigma.proofs.entropies.all_logs.Given as goal

abbrev pub invariant-loop-t : goal.invariant-loop-t
invariant-loop-t l = Loops (log_step l.ms l.ks) 32 l.initial.ls l.t l.ls
