-- Exact cases of the step, computed.
use Rattle.std.specs.Prelude.{◌≡◌, refl, [], ◌∷◌, Ok, Err}
use Rattle.std.specs.Float.Ieee.{of_bits, add, sub, mul, div, lt, le, neg, of_int}
use Rattle.laws.specs.Loops.{loop, every}
use Rattle.laws.specs.Area.{at, bits, zero64, one64}
use Rattle.elementary.specs.Limits.{up_to}
use Rattle.step_gains.specs.Gains.{gain_of}
use Rattle.step_passes.specs.Passes.{before, centred_by}
use Rattle.step.specs.Step.{step_outcome, finish_of}

-- a product of zero does not shrink the gain: 1 becomes 1.2
pub gain-zero : gain_of one64 one64 zero64 ≡ bits 0x3ff3333333333333
unfolding gain_of mul lt add of_bits
gain-zero = refl

-- two frames in one component: gradients -11 and 11, rate 5, momentum 0.5, starts 0 and 1, gains 1; a tail is kept
pub step-two-frames : finish_of (before (bits 0x3fe0000000000000) (bits 0x4014000000000000) (at (bits 0xc026000000000000 ∷ bits 0x4026000000000000 ∷ []))
    (zero64 ∷ one64 ∷ one64 ∷ []) (zero64 ∷ zero64 ∷ []) (one64 ∷ one64 ∷ [])) 2 1
    ≡ step_outcome (Ok tt) (bits 0x4050600000000000 ∷ bits 0xc050600000000000 ∷ one64 ∷ []) (bits 0x4050800000000000 ∷ bits 0xc050800000000000 ∷ [])
    (bits 0x3ff3333333333333 ∷ bits 0x3ff3333333333333 ∷ [])
unfolding finish_of centred_by every loop up_to le neg add sub mul div lt of_int of_bits
step-two-frames = refl

-- an increment of NaN is refused, and nothing is changed
pub nan-refused : finish_of (before one64 one64 (at (bits 0x7ff8000000000000 ∷ [])) (one64 ∷ []) (one64 ∷ []) (one64 ∷ [])) 1 1 ≡ step_outcome (Err 15) (one64 ∷ []) (one64 ∷ []) (one64 ∷ [])
unfolding finish_of centred_by every loop up_to le neg add sub mul div lt of_int of_bits
nan-refused = refl
