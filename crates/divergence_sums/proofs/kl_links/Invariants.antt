-- `divergence_sums::kl_links` meets its contract: the loop keeps `Loops`; by `loop-start`, `loop-next`, `loop-done`.
use Rattle.divergence_sums.specs.Sums.{kl_link_step}
use Rattle.laws.proofs.Loops.{Loops}
use Rattle.divergence_sums.proofs.kl_links.Given as goal

abbrev pub invariant-loop-k : goal.invariant-loop-k
invariant-loop-k l = Loops (kl_link_step l.map.positions.now l.lists.weights.now l.lists.indices.now l.exaggeration l.z l.map.c l.i l.a) l.links l.initial.s l.k l.s
