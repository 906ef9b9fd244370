-- `divergence_sums::barnes_hut_kl` meets its contract: the loop keeps `Loops`; by `loop-start`, `loop-next`, `loop-done`.
use Rattle.divergence_sums.specs.Sums.{kl_list}
use Rattle.laws.proofs.Loops.{Loops}
use Rattle.divergence_sums.proofs.barnes_hut_kl.Given as goal

abbrev pub invariant-loop-i : goal.invariant-loop-i
invariant-loop-i l = Loops (kl_list l.map.positions.now l.lists.weights.now l.lists.indices.now l.lists.offsets.now l.exaggeration l.z l.map.c) l.map.n l.initial.s l.i l.s
