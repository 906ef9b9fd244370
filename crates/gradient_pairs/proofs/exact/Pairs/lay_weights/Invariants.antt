-- A place is written in each turn, by the turn and the end of a counting loop.
use mathlib.Core.Path.{◌≡◌}
use lib.ListN.{length}
use Rattle.gradient_pairs.specs.Exact.{weight_laid}
use Rattle.laws.proofs.Loops.{Loops}
use Rattle.gradient_pairs.proofs.exact.Pairs.lay_weights.Given as goal

abbrev pub invariant-loop-k : goal.invariant-loop-k
invariant-loop-k l = (length l.weights ≡ length l.initial.weights) × Loops (weight_laid l.nums l.self.affinities.now l.self.exaggeration l.self.total l.self.map.n l.i l.j)
    l.m l.initial.weights l.k l.weights
