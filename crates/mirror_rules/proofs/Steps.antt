-- The finish in the mirror: the gain is equal to the bit. Assumes nothing.
use mathlib.Core.Path.{◌≡◌, refl, sym, ap, ◌∙◌}
use mathlib.Core.Bool.{Bool, cond}
use lib.Ieee.{Float, binary64, add, mul, lt}
use Rattle.laws.specs.Area.{zero64}
use Rattle.step_gains.specs.Gains.{decay, growth, changed, floored, gain_of}
use Rattle.mirror_values.specs.Values.{Shows}
use Rattle.mirror_values.proofs.Shows.{shows-above}

-- ---- one element

gain-shape : (g d v : Float) → gain_of g d v ≡ floored (cond (lt zero64 (mul binary64 d v)) (mul binary64 g decay) (add binary64 g growth))
unfolding gain_of changed
gain-shape g d v = refl

pub gain-same : {b : Bool} {d d' v v' : Float} (g : Float) → Shows b d d' → Shows b v v' → gain_of g d v ≡ gain_of g d' v'
gain-same {b} {d} {d'} {v} {v'} g p q = gain-shape g d v ∙ ap (λ (t : Bool). floored (cond t (mul binary64 g decay) (add binary64 g growth))) (shows-above p q) ∙ sym (gain-shape g d' v')
