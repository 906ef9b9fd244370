-- The frames one after the other, by the turn and the end of a counting loop.
use Rattle.gradient_pairs.specs.Exact.{weighed_step}
use Rattle.laws.proofs.Loops.{Loops}
use Rattle.gradient_pairs.proofs.exact.Map.add_frames.Given as goal

abbrev pub invariant-loop-k : goal.invariant-loop-k
invariant-loop-k l = Loops (weighed_step l.weights l.self.positions.now l.self.c l.j) l.m l.initial.so_far l.k l.so_far
