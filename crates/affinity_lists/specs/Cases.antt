-- Small lists, computed from the definitions.
use Rattle.std.specs.Prelude.{◌≡◌, refl, [], ◌∷◌}
use Rattle.std.specs.Float.Ieee.{add, of_bits}
use Rattle.laws.specs.Loops.{seek}
use Rattle.laws.specs.Area.{bits, zero64, one64, two64}
use Rattle.laws.specs.Joined.{those, joined}
use Rattle.affinity_lists.specs.Lists.{weight, areas, lists_made}

-- Three frames with one link each: 0 names 1 with 0.5, 1 names 0 with 0.25, 2 names 1 with 0.125.
-- List 0 has 1, list 1 has 0 and 2, list 2 has 1; 0.75 both ways, 0.125 both ways; every tail is kept.
three-frames : lists_made 3 1
    (areas
    (bits 0x3fe0000000000000 ∷ bits 0x3fd0000000000000 ∷ bits 0x3fc0000000000000 ∷ one64 ∷ one64 ∷ one64 ∷ [])
    (1 ∷ 0 ∷ 1 ∷ 7 ∷ 8 ∷ 9 ∷ [])
    (5 ∷ 5 ∷ 5 ∷ 5 ∷ 5 ∷ [])
    (one64 ∷ one64 ∷ one64 ∷ two64 ∷ [])
    (6 ∷ 6 ∷ 6 ∷ 4 ∷ []))
    ≡ areas
    (bits 0x3fe8000000000000 ∷ bits 0x3fe8000000000000 ∷ bits 0x3fc0000000000000 ∷ bits 0x3fc0000000000000 ∷ one64 ∷ one64 ∷ [])
    (1 ∷ 0 ∷ 2 ∷ 1 ∷ 8 ∷ 9 ∷ [])
    (0 ∷ 1 ∷ 3 ∷ 4 ∷ 5 ∷ [])
    (zero64 ∷ zero64 ∷ zero64 ∷ two64 ∷ [])
    (0 ∷ 0 ∷ 0 ∷ 4 ∷ [])
unfolding seek those joined weight of_bits add
three-frames = refl

-- a weight starts at +0.0: two shares of −0.0 give +0.0
from_zero : weight 1 (1 ∷ 0 ∷ []) (bits 0x8000000000000000 ∷ bits 0x8000000000000000 ∷ []) 0 1 ≡ zero64
unfolding seek weight of_bits add
from_zero = refl
