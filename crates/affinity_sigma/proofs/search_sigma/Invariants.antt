-- `sigma::search_sigma` meets its contract: the rounds so far with the sum of the weights, the round that meets the perplexity, and the fiftieth. Assumes nothing.
use lib.ListN.{length}
use Prim.Native.Nat.{◌-◌}
use mathlib.Core.Path.{◌≡◌}
use Rattle.affinity_sigma.specs.Sigma.{most_rounds}
use Rattle.affinity_sigma.proofs.Rounds.{Narrows}
use Rattle.affinity_sigma.proofs.search_sigma.Given as goal

abbrev pub invariant-loop-round : goal.invariant-loop-round
invariant-loop-round l = (length l.shares ≡ length l.initial.shares) × Narrows l.distances l.n l.perplexity l.initial.shares l.round l.shares l.b l.sum
