-- `divergence_sums::kl_divergence` meets its contract: the loop keeps `Loops`; by `loop-start`, `loop-next`, `loop-done`.
use Rattle.divergence_sums.specs.Sums.{kl_row_step}
use Rattle.laws.proofs.Loops.{Loops}
use Rattle.divergence_sums.proofs.kl_divergence.Given as goal

abbrev pub invariant-loop-i : goal.invariant-loop-i
invariant-loop-i l = Loops (kl_row_step l.pairs.map.positions.now l.pairs.affinities.now l.pairs.exaggeration l.pairs.total l.pairs.map.n l.pairs.map.c) l.pairs.map.n l.initial.s l.i l.s
