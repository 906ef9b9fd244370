-- Rows of the sigma search, computed.
use Rattle.std.specs.Prelude.{◌≡◌, refl, [], ◌∷◌, Float}
use Rattle.std.specs.Float.Ieee.{of_bits, add, sub, mul, div, lt, eq, neg, of_int, is_nan, size}
use Rattle.laws.specs.Area.{bits, zero64, one64}
use Rattle.affinity_sigma.specs.Sigma.{sigma_shares}

abbrev half : Float
half = bits 0x3fe0000000000000

-- table 0, 1, perplexity 1: frame 0's row has the distances 0 and 1; a tail is kept
pub sigma-two-frames : sigma_shares (zero64 ∷ one64 ∷ []) 2 one64 (one64 ∷ one64 ∷ half ∷ []) ≡ zero64 ∷ one64 ∷ half ∷ []
unfolding sigma_shares add sub mul div lt eq neg of_int is_nan size of_bits
sigma-two-frames = refl

-- coincident frames: every entry is 1 / length, whatever the perplexity asked for; -0.0 is a zero too
pub coincident : sigma_shares (zero64 ∷ bits 0x8000000000000000 ∷ []) 2 one64 (one64 ∷ one64 ∷ []) ≡ half ∷ half ∷ []
unfolding sigma_shares add sub mul div lt eq neg of_int is_nan size of_bits
coincident = refl

-- distances 1 and 4, perplexity 1.5: met after some rounds
pub perplexity-met : sigma_shares (one64 ∷ bits 0x4010000000000000 ∷ []) 2 (bits 0x3ff8000000000000) (one64 ∷ one64 ∷ []) ≡ bits 0x3feb82dc900e2554 ∷ bits 0x3fc1f48dbfc76aad ∷ []
unfolding sigma_shares add sub mul div lt eq neg of_int is_nan size of_bits
perplexity-met = refl
