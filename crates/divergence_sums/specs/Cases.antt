-- Values of the sums, computed: two frames at 0 and 1 in one component, affinity 0.5 both ways, total and Z 1, so that q is 0.5.
use Rattle.std.specs.Prelude.{◌≡◌, refl, List, [], ◌∷◌, Float}
use Rattle.std.specs.Float.Ieee.{of_bits, of_int, size, add, sub, mul, div, lt}
use Rattle.laws.specs.Loops.{loop}
use Rattle.laws.specs.Area.{bits, zero64, one64}
use Rattle.elementary.specs.Limits.{unless_above}
use Rattle.elementary.specs.Ln.{ln_of}
use Rattle.divergence_sums.specs.Sums.{kl_dense, kl_lists}

abbrev couple : List Float
couple = zero64 ∷ one64 ∷ []

abbrev half : Float
half = bits 0x3fe0000000000000

abbrev twelve : Float
twelve = bits 0x4028000000000000

-- over pairs, with 1 on the diagonal, which is skipped
abbrev by_pairs : Float → Float
by_pairs x = kl_dense couple (one64 ∷ half ∷ half ∷ one64 ∷ []) x one64 2 1

-- over links
abbrev by_links : Float → Float
by_links x = kl_lists couple (half ∷ half ∷ []) (1 ∷ 0 ∷ []) (0 ∷ 1 ∷ 2 ∷ []) x one64 2 1

-- p is q: the figure is 0
pub pairs-even : by_pairs one64 ≡ zero64
unfolding kl_dense ln_of loop unless_above size lt add sub mul div of_int of_bits
pairs-even = refl

pub links-even : by_links one64 ≡ zero64
unfolding kl_lists ln_of loop unless_above size lt add sub mul div of_int of_bits
links-even = refl

-- exaggerated: 12·ln 12
pub pairs-exaggerated : by_pairs twelve ≡ bits 0x403dd1a21b3d6dbc
unfolding kl_dense ln_of loop unless_above size lt add sub mul div of_int of_bits
pairs-exaggerated = refl

pub links-exaggerated : by_links twelve ≡ bits 0x403dd1a21b3d6dbc
unfolding kl_lists ln_of loop unless_above size lt add sub mul div of_int of_bits
links-exaggerated = refl
