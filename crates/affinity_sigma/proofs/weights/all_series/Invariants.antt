-- `sigma::weights::all_series` meets its contract: t series are written. Assumes nothing.
use Prim.Native.Nat.{◌-◌}
use Rattle.laws.proofs.Loops.{Loops}
use Rattle.affinity_sigma.specs.Blocks.{series_step}
use Rattle.affinity_sigma.proofs.weights.all_series.Given as goal

abbrev pub invariant-loop-t : goal.invariant-loop-t
invariant-loop-t l = Loops (series_step l.xs l.us) 32 l.initial.ts l.t l.ts
