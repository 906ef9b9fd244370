-- Squared distances between the frames of a table, as the scope paper (rule 2), `pairwise_squared_distances` and `neighbor_probabilities` have them. Definitions only.
use Rattle.std.specs.Prelude.{◌≡◌, List, ℕ, ◌+◌, ◌*◌, ◌<◌, set, Float}
use Rattle.std.specs.Float.{binary64}
use Rattle.std.specs.Float.Ieee.{add, sub, mul}
use Rattle.laws.specs.Loops.{loop}
use Rattle.laws.specs.Area.{at, zero64, two64}
use Rattle.elementary.specs.Limits.{unless_above}

-- one more product, of what stands k past a and k past b
abbrev pub dot_step : List Float → ℕ → ℕ → ℕ → Float → Float
dot_step t a b k s = add binary64 s (mul binary64 (at t (a + k)) (at t (b + k)))

-- frames i and j of a table of f features: the sum starts at +0.0 and runs by rising feature
abbrev pub dot_of : List Float → ℕ → ℕ → ℕ → Float
dot_of t f i j = loop (dot_step t (i * f) (j * f)) f 0 zero64

-- x²ᵢ, frame i's product with itself
abbrev pub square_of : List Float → ℕ → ℕ → Float
square_of t f i = dot_of t f i i

-- (x²ᵢ + x²ⱼ) - 2·xᵢxⱼ, replaced by +0.0 unless above 0
unfoldable pub distance_of : List Float → ℕ → ℕ → ℕ → Float
unfolding loop unless_above
distance_of t f i j = unless_above zero64 (sub binary64 (add binary64 (square_of t f i) (square_of t f j)) (mul binary64 two64 (dot_of t f i j)))

-- ---- areas

abbrev pub square_step : List Float → ℕ → ℕ → List Float → List Float
square_step t f i p = set p i (square_of t f i)

-- the squares of n frames in the first n places, the tail kept
abbrev pub squares_of : List Float → ℕ → ℕ → List Float → List Float
squares_of t n f p = loop (square_step t f) n 0 p

-- the first n places of an area hold the squares of the frames
abbrev pub Squared : List Float → ℕ → ℕ → List Float → Type 0
Squared t n f p = (j : ℕ) → j < n → at p j ≡ square_of t f j

abbrev pub distance_step : List Float → ℕ → ℕ → ℕ → List Float → List Float
distance_step t f i j p = set p j (distance_of t f i j)

-- the distances of frame i to n frames in the first n places, to itself 0; the tail kept
abbrev pub distance_row : List Float → ℕ → ℕ → ℕ → List Float → List Float
distance_row t n f i p = set (loop (distance_step t f i) n 0 p) i zero64
