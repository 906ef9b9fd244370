-- One element of the gradient, by method, from what the forces area holds; the normaliser Z; the largest element. Definitions only.
use Rattle.std.specs.Prelude.{List, Bool, cond, ℕ, ◌+◌, ◌*◌, ◌/◌, ◌%◌, Float}
use Rattle.std.specs.Float.{binary64}
use Rattle.std.specs.Float.Ieee.{add, sub, mul, div}
use Rattle.laws.specs.Loops.{loop}
use Rattle.laws.specs.Area.{at, zero64}
use Rattle.elementary.specs.Limits.{unless_above, abs_of}
use Rattle.gradient.specs.Forces.{place_of}
use Rattle.gradient_pairs.specs.Exact.{share_floor}
use Rattle.gradient.specs.Exact.{four64}

-- the shares by rising point, from +0.0
abbrev pub share_step : List Float → ℕ → ℕ → Float → Float
share_step F c i s = add binary64 s (at F (place_of c i + 2 * c))

-- their sum
abbrev pub share_sum_of : List Float → ℕ → ℕ → Float
share_sum_of F n c = loop (share_step F c) n 0 zero64

-- Z: that sum, at least 2^-52
unfoldable pub normaliser_of : List Float → ℕ → ℕ → Float
unfolding loop unless_above
normaliser_of F n c = unless_above share_floor (share_sum_of F n c)

-- element e of the map belongs to point e / c, component e % c
abbrev pub spot_of : ℕ → ℕ → ℕ
spot_of c e = place_of c (e / c) + e % c

-- 4·(attraction − repulsion/Z); an exact run's stands in its place
unfoldable pub gradient_of : Bool → List Float → Float → ℕ → ℕ → Float
gradient_of exact F z c e = cond exact (at F e) (mul binary64 four64 (sub binary64 (at F (spot_of c e)) (div binary64 (at F (spot_of c e + c)) z)))

-- no normaliser is worked out for an exact run
abbrev pub normaliser_for : Bool → List Float → ℕ → ℕ → Float
normaliser_for exact F n c = cond exact zero64 (normaliser_of F n c)

-- the gradients of a whole iteration
abbrev pub gradients_of : Bool → List Float → ℕ → ℕ → ℕ → Float
gradients_of exact F n c e = gradient_of exact F (normaliser_for exact F n c) c e

-- the largest absolute element, from +0.0
abbrev pub norm_step : (ℕ → Float) → ℕ → Float → Float
norm_step g e m = unless_above m (abs_of (g e))

unfoldable pub norm_of : (ℕ → Float) → ℕ → Float
unfolding loop
norm_of g m = loop (norm_step g) m 0 zero64
