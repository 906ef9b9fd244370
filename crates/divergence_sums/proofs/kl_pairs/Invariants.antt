-- `divergence_sums::kl_pairs` meets its contract: the loop keeps `Loops`; by `loop-start`, `loop-next`, `loop-done`.
use Rattle.divergence_sums.specs.Sums.{kl_shared_step}
use Rattle.laws.proofs.Loops.{Loops}
use Rattle.divergence_sums.proofs.kl_pairs.Given as goal

abbrev pub invariant-loop-k : goal.invariant-loop-k
invariant-loop-k l = Loops (kl_shared_step l.shares l.pairs.affinities.now l.pairs.exaggeration l.pairs.map.n l.i l.j) l.m l.sum l.k l.so_far
