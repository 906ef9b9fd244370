-- The exact gradient of two frames at 0 and 1 in one component, affinity 0.5 both ways, computed.
use Rattle.std.specs.Prelude.{◌≡◌, refl, List, [], ◌∷◌, Float}
use Rattle.std.specs.Float.Ieee.{of_bits, add, sub, mul, div, lt, neg}
use Rattle.laws.specs.Loops.{loop}
use Rattle.laws.specs.Area.{bits, zero64, one64}
use Rattle.elementary.specs.Limits.{unless_above}
use Rattle.gradient.specs.Exact.{total_row, gradient_row}

abbrev couple : List Float
couple = zero64 ∷ one64 ∷ []

abbrev half : Float
half = bits 0x3fe0000000000000

abbrev twelve : Float
twelve = bits 0x4028000000000000

-- row by row: the total is 1, and the gradients are 0; exaggerated -11 and 11
abbrev exact : Float → List Float
exact x = loop (λ i F. gradient_row couple (zero64 ∷ half ∷ half ∷ zero64 ∷ []) x 2 1 i F) 2 0 (loop (λ i F. total_row couple 2 1 i F) 2 0 (zero64 ∷ zero64 ∷ zero64 ∷ zero64 ∷ zero64 ∷ zero64 ∷ []))

pub exact-even : exact one64 ≡ zero64 ∷ zero64 ∷ one64 ∷ zero64 ∷ zero64 ∷ zero64 ∷ []
unfolding gradient_row total_row loop unless_above add sub mul div lt neg of_bits
exact-even = refl

pub exact-pulled : exact twelve ≡ bits 0xc026000000000000 ∷ bits 0x4026000000000000 ∷ one64 ∷ zero64 ∷ zero64 ∷ zero64 ∷ []
unfolding gradient_row total_row loop unless_above add sub mul div lt neg of_bits
exact-pulled = refl
