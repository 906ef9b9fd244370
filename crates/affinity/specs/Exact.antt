-- The exact affinities of n frames, as the scope paper (rule 2), `conditional_probabilities` and `symmetrize_probabilities` have them. Definitions only.
-- A table has f features a frame; its distances are those of `affinity_near`, the shares those of `affinity_sigma`.
use Rattle.std.specs.Prelude.{List, cond, ℕ, min, max, eqb, replicate, Float}
use Rattle.std.specs.Float.{binary64}
use Rattle.std.specs.Float.Ieee.{add, div}
use Rattle.laws.specs.Loops.{loop}
use Rattle.laws.specs.Area.{at, zero64}
use Rattle.laws.specs.Joined.{joined, each, laid}
use Rattle.affinity_joins.specs.Joins.{norm}
use Rattle.affinity_distances.specs.Distances.{distance_of, distance_row}
use Rattle.affinity_sigma.specs.Sigma.{sigma_shares, shares_of}

-- the distances of frame i to the n frames, to itself 0
abbrev pub distances_of : List Float → ℕ → ℕ → ℕ → List Float
distances_of t n f i = distance_row t n f i (replicate n zero64)

-- frame i's share of frame j: what the sigma search over i's distances gives j
unfoldable pub conditional : List Float → ℕ → ℕ → Float → ℕ → ℕ → Float
unfolding loop distance_of sigma_shares
conditional t n f perplexity i j = at (shares_of (distances_of t n f i) n perplexity) j

-- a lower frame's share of a higher one and the higher one's share of the lower, together, divided by 2n
unfoldable pub jointly : List Float → ℕ → ℕ → Float → ℕ → ℕ → Float
unfolding conditional
jointly t n f perplexity low high = div binary64 (add binary64 (conditional t n f perplexity low high) (conditional t n f perplexity high low)) (norm n)

-- the affinity of frames i and j, and so of j and i; none with itself
unfoldable pub affinity_of : List Float → ℕ → ℕ → Float → ℕ → ℕ → Float
unfolding jointly
affinity_of t n f perplexity i j = cond (eqb i j) zero64 (jointly t n f perplexity (min i j) (max i j))

-- the area: n rows of n affinities, then what stood there
unfoldable pub exact_of : List Float → ℕ → ℕ → Float → List Float → List Float
unfolding affinity_of joined
exact_of t n f perplexity l = laid (λ i. each (λ j. affinity_of t n f perplexity i j) n) n n l
