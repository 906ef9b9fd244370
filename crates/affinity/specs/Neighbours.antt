-- The Barnes-Hut rows and lists of n frames, as the scope paper (rule 2) and `neighbor_probabilities` have them. Definitions only.
-- Each frame names its k nearest, by distance and then index, with its shares of them; the lists that become of the rows are those of `affinity_lists`.
use Rattle.std.specs.Prelude.{List, map, ℕ, Float}
use Rattle.std.specs.Float.{binary64}
use Rattle.std.specs.Float.Ieee.{div}
use Rattle.laws.specs.Loops.{loop, seek}
use Rattle.laws.specs.Joined.{joined, those, each, laid}
use Rattle.laws.specs.Area.{at}
use Rattle.elementary.specs.Limits.{neighbours_of}
use Rattle.affinity_distances.specs.Distances.{distance_of}
use Rattle.affinity_near.specs.Near.{Pair, sorted, nearest_by, by_index_of}
use Rattle.affinity_sigma.specs.Sigma.{sigma_shares, shares_of}
use Rattle.affinity_lists.specs.Lists.{Areas, areas, weight, lists_made}
use Rattle.affinity_joins.specs.Joins.{norm}

-- the values of some pairs: distances, or shares
abbrev pub values_in : List Pair → List Float
values_in l = map (λ (x : Pair). x.value) l

-- their frames
abbrev pub frames_in : List Pair → List ℕ
frames_in l = map (λ (x : Pair). x.index) l

-- the k nearest frames of frame i with their distances, nearest first
abbrev pub nearest_frames : List Float → ℕ → ℕ → ℕ → ℕ → List Pair
nearest_frames t n f k i = nearest_by (distance_of t f i) n k i

-- frame i's shares of them, nearest first: the sigma search over their k distances, and each share divided by 2n
unfoldable pub nearest_shares : List Float → ℕ → ℕ → ℕ → Float → ℕ → List Float
unfolding loop distance_of sorted sigma_shares joined
nearest_shares t n f k perplexity i = each (λ s. div binary64 (at (shares_of (values_in (nearest_frames t n f k i)) k perplexity) s) (norm n)) k

-- row i: the k nearest frames by rising index, each with its share
unfoldable pub neighbour_row : List Float → ℕ → ℕ → ℕ → Float → ℕ → List Pair
unfolding nearest_shares
neighbour_row t n f k perplexity i = by_index_of (nearest_shares t n f k perplexity i) (frames_in (nearest_frames t n f k i)) k

-- the areas with the n rows at their front
abbrev pub rows_of : List Float → ℕ → ℕ → ℕ → Float → Areas → Areas
rows_of t n f k perplexity a =
    areas
    (laid (λ i. values_in (neighbour_row t n f k perplexity i)) k n a.weights)
    (laid (λ i. frames_in (neighbour_row t n f k perplexity i)) k n a.indices)
    a.offsets
    a.row_values
    a.row_indices

-- the areas with the lists that become of the rows; the preparation rows are zeros again
unfoldable pub neighbours_listed : List Float → ℕ → ℕ → Float → Areas → Areas
unfolding neighbours_of neighbour_row joined those seek weight
neighbours_listed t n f perplexity a = lists_made n (neighbours_of perplexity n) (rows_of t n f (neighbours_of perplexity n) perplexity a)
