-- Affinities of two frames that coincide, by both routes, computed; tails are kept.
use Rattle.std.specs.Prelude.{◌≡◌, refl, List, [], ◌∷◌, Float}
use Rattle.std.specs.Float.Ieee.{of_bits, add, sub, mul, div, lt, eq, neg, of_int, is_nan, size}
use Rattle.laws.specs.Area.{bits, zero64, one64, two64}
use Rattle.affinity_lists.specs.Lists.{areas}
use Rattle.affinity.specs.Exact.{exact_of}
use Rattle.affinity.specs.Neighbours.{neighbours_listed}

-- 0.5 and 0.25
abbrev half : Float
half = bits 0x3fe0000000000000

abbrev quarter : Float
quarter = bits 0x3fd0000000000000

-- two frames that coincide
abbrev alike : List Float
alike = one64 ∷ one64 ∷ []

-- coincident frames: on the exact route each share is 1/2, a frame's own included; on the other it is 1, of the one frame that is named
pub exact-alike : exact_of alike 2 1 one64 (one64 ∷ one64 ∷ one64 ∷ one64 ∷ two64 ∷ []) ≡ zero64 ∷ quarter ∷ quarter ∷ zero64 ∷ two64 ∷ []
unfolding exact_of add sub mul div lt eq neg of_int is_nan size of_bits
exact-alike = refl

pub listed-alike : neighbours_listed alike 2 1 one64 (areas (one64 ∷ one64 ∷ one64 ∷ one64 ∷ []) (7 ∷ 7 ∷ 8 ∷ 9 ∷ []) (7 ∷ 7 ∷ 7 ∷ 9 ∷ []) (one64 ∷ one64 ∷ two64 ∷ []) (7 ∷ 7 ∷ 9 ∷ []))
    ≡ areas (half ∷ half ∷ one64 ∷ one64 ∷ []) (1 ∷ 0 ∷ 8 ∷ 9 ∷ []) (0 ∷ 1 ∷ 2 ∷ 9 ∷ []) (zero64 ∷ zero64 ∷ two64 ∷ []) (0 ∷ 0 ∷ 9 ∷ [])
unfolding neighbours_listed add sub mul div lt eq neg of_int is_nan size of_bits
listed-alike = refl
