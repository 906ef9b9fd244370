-- `divergence_sums::kl_divergence_row` meets its contract: the loop keeps `Loops`; by `loop-start`, `loop-on`, `loop-done`.
use Rattle.divergence_sums.specs.Sums.{kl_step}
use Rattle.laws.proofs.Loops.{Loops}
use Prim.Native.Nat.{◌-◌}
use Rattle.divergence_sums.proofs.kl_divergence_row.Given as goal

abbrev pub invariant-loop-j : goal.invariant-loop-j
invariant-loop-j l = Loops (kl_step l.pairs.map.positions.now l.pairs.affinities.now l.pairs.exaggeration l.pairs.total l.pairs.map.n l.pairs.map.c l.i) l.pairs.map.n l.initial.s l.j l.s

abbrev pub decreases-loop-j : goal.decreases-loop-j
decreases-loop-j l = l.pairs.map.n - l.j
