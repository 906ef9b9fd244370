-- `scatter::random_init` meets its contract: k places are written, from the seed's next k states. Assumes nothing.
use Rattle.std.proofs.Common.{◌≡◌, length}
use Rattle.laws.proofs.Loops.{Loops}
use Rattle.scatter.specs.Scatter.{spread, scatter_step}
use Rattle.scatter.proofs.random_init.Given as goal

abbrev pub invariant-loop-k : goal.invariant-loop-k
invariant-loop-k l = (length l.positions ≡ length l.initial.positions) × Loops scatter_step l.m (spread l.seed l.initial.positions) l.k (spread l.state l.positions)
