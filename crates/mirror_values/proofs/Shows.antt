-- What the mirror shows of values it shows of their sums, differences, products and quotients; it shows no other square, magnitude or test. Assumes nothing.
use mathlib.Core.Path.{◌≡◌, refl, ap}
use mathlib.Core.Bool.{Bool, false}
use lib.Ieee.{Float, nan, binary64, of_bits, neg, add, sub, mul, div, lt}
use Rattle.laws.specs.Area.{zero64}
use Rattle.laws.proofs.Bools.{by_bool}
use Rattle.elementary.specs.Limits.{up_to, abs_of}
use Rattle.mirror_values.specs.Values.{Opposite, negative, zeros, Shows}
use Rattle.mirror_values.specs.Shown.{turned_if}
use Rattle.mirror_values.proofs.Alikes.{zero_of, alike_refl, alike-lt}
use Rattle.mirror_values.proofs.Opposites.{opposite-neg, opposite-add, opposite-sub, opposite-scaled, opposite-times, opposite-div, opposite-product}
use Rattle.mirror_values.proofs.Opposites.{opposite-square, opposite-up-to, opposite-abs}

-- ---- +0.0, NaN, and a value turned

pub opposite-zero : Opposite zero64 zero64
unfolding of_bits
opposite-zero = zeros (zero_of false) (zero_of false)

pub shows-zero : (b : Bool) → Shows b zero64 zero64
shows-zero b = record { turned = λ e. opposite-zero; straight = λ e. refl }

pub shows-nan : (b : Bool) → Shows b nan nan
unfolding neg
shows-nan b = record { turned = λ e. negative refl; straight = λ e. refl }

pub shows-turned : (b : Bool) (x : Float) → Shows b x (turned_if b x)
unfolding turned_if
shows-turned b x = record { turned = λ e. negative (rw e); straight = λ e. rw e }

-- ---- operations

pub shows-neg : {b : Bool} {x x' : Float} → Shows b x x' → Shows b (neg x) (neg x')
shows-neg p = record { turned = λ e. opposite-neg (p.turned e); straight = λ e. ap neg (p.straight e) }

pub shows-add : {b : Bool} {x x' y y' : Float} → Shows b x x' → Shows b y y' → Shows b (add binary64 x y) (add binary64 x' y')
shows-add p q = record { turned = λ e. opposite-add (p.turned e) (q.turned e); straight = λ e. rw (p.straight e, q.straight e) }

pub shows-sub : {b : Bool} {x x' y y' : Float} → Shows b x x' → Shows b y y' → Shows b (sub binary64 x y) (sub binary64 x' y')
shows-sub p q = record { turned = λ e. opposite-sub (p.turned e) (q.turned e); straight = λ e. rw (p.straight e, q.straight e) }

pub shows-scaled : {b : Bool} {x x' : Float} (w : Float) → Shows b x x' → Shows b (mul binary64 w x) (mul binary64 w x')
shows-scaled w p = record { turned = λ e. opposite-scaled w (p.turned e); straight = λ e. ap (mul binary64 w) (p.straight e) }

pub shows-times : {b : Bool} {x x' : Float} (w : Float) → Shows b x x' → Shows b (mul binary64 x w) (mul binary64 x' w)
shows-times w p = record { turned = λ e. opposite-times w (p.turned e); straight = λ e. ap (λ (v : Float). mul binary64 v w) (p.straight e) }

pub shows-div : {b : Bool} {x x' : Float} (w : Float) → Shows b x x' → Shows b (div binary64 x w) (div binary64 x' w)
shows-div w p = record { turned = λ e. opposite-div w (p.turned e); straight = λ e. ap (λ (v : Float). div binary64 v w) (p.straight e) }

-- ---- what is equal to the bit

module _ {b : Bool} {x x' : Float} (p : Shows b x x') where
  pub shows-square : mul binary64 x x ≡ mul binary64 x' x'
  shows-square = by_bool (mul binary64 x x ≡ mul binary64 x' x') b (λ e. opposite-square (p.turned e)) (λ e. ap (λ (v : Float). mul binary64 v v) (p.straight e))

  -- the test above 0 of a product of two
  pub shows-above : {y y' : Float} → Shows b y y' → lt zero64 (mul binary64 x y) ≡ lt zero64 (mul binary64 x' y')
  shows-above {y} {y'} q = by_bool (lt zero64 (mul binary64 x y) ≡ lt zero64 (mul binary64 x' y')) b
      (λ e. alike-lt (alike_refl zero64) (opposite-product (p.turned e) (q.turned e)))
      (λ e. rw (p.straight e, q.straight e))

  pub shows-up-to : (h : Float) → up_to h x ≡ up_to h x'
  shows-up-to h = by_bool (up_to h x ≡ up_to h x') b (λ e. opposite-up-to h (p.turned e)) (λ e. ap (up_to h) (p.straight e))

  pub shows-abs : abs_of x ≡ abs_of x'
  shows-abs = by_bool (abs_of x ≡ abs_of x') b (λ e. opposite-abs (p.turned e)) (λ e. ap abs_of (p.straight e))
