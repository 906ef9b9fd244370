-- What the private functions leave in the areas on the way to the affinities. Definitions only.
use Rattle.std.specs.Prelude.{List, ◌++◌, ℕ, drop, Float}
use Rattle.laws.specs.Loops.{loop}
use Rattle.affinity_distances.specs.Distances.{distance_row}
use Rattle.affinity_near.specs.Near.{indices_over}
use Rattle.laws.specs.Joined.{each}
use Rattle.affinity.specs.Exact.{conditional}
use Rattle.affinity.specs.Neighbours.{nearest_frames, nearest_shares}

-- ---- the exact route

-- frame i's shares of the n frames
abbrev pub conditionals : List Float → ℕ → ℕ → Float → ℕ → List Float
conditionals t n f perplexity i = each (λ j. conditional t n f perplexity i j) n

-- the distances of one frame after the other: those of the last stay
abbrev pub distances_left : List Float → ℕ → ℕ → List Float → List Float
distances_left t n f p = loop (distance_row t n f) n 0 p

-- ---- the Barnes-Hut route: the preparation rows

-- frame i's shares, nearest first, over its distances
abbrev pub shares_left : List Float → ℕ → ℕ → ℕ → Float → ℕ → List Float → List Float
shares_left t n f k perplexity i p = nearest_shares t n f k perplexity i ++ drop k (distance_row t n f i p)

-- its k nearest, over what stood there
abbrev pub frames_left : List Float → ℕ → ℕ → ℕ → ℕ → List ℕ → List ℕ
frames_left t n f k i r = indices_over (nearest_frames t n f k i) r
