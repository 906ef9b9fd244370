-- Row by parts: each takes the loop on by as many turns as it has frames.
use Rattle.gradient_pairs.specs.Exact.{pull_step}
use Rattle.laws.proofs.Loops.{Loops}
use Prim.Native.Nat.{◌-◌}
use Rattle.gradient_pairs.proofs.exact.Pairs.gather.Given as goal

abbrev pub invariant-loop-j : goal.invariant-loop-j
invariant-loop-j l = Loops (pull_step l.self.map.positions.now l.self.affinities.now l.self.exaggeration l.self.total l.self.map.n l.self.map.c l.i) l.self.map.n l.initial.x l.j l.x

abbrev pub decreases-loop-j : goal.decreases-loop-j
decreases-loop-j l = l.self.map.n - l.j
