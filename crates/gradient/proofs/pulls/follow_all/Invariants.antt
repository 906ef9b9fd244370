-- `gradient::pulls::follow_all` meets its contract: the loop keeps `Loops`; by `loop-start`, `loop-next`, `loop-done`.
use Rattle.gradient.specs.Forces.{link_step}
use Rattle.laws.proofs.Loops.{Loops}
use Rattle.gradient.proofs.pulls.follow_all.Given as goal

abbrev pub invariant-loop-k : goal.invariant-loop-k
invariant-loop-k l = Loops (link_step l.exaggeration l.map.c l.map.positions.now l.lists.weights.now l.lists.indices.now l.p l.a) l.links l.initial.t l.k l.t
