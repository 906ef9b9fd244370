-- Values that are equal but for the sign of a zero stay so in every operation, and no test tells them apart. Assumes nothing.
use mathlib.Core.Path.{◌≡◌, refl, sym, ap, subst, ◌∙◌}
use mathlib.Core.Bool.{Bool, true, false, cond, not, ◌&&◌, ◌||◌, beq}
use Prim.Native.Nat.{ℕ, zero, suc, ◌+◌, ◌-◌, ◌*◌, ◌<◌}
use native.Mathlib.Omega.{arith}
use native.Mathlib.Nat.{zero-mul, mul-zero, mul-pos, add-zero, zero-add, sub-zero, zero-lt-suc}
use native.Mathlib.Decide.{ℕ_discrete}
use lib.IntN.{ℤ, pos}
use lib.Dec.{ltb, eqb}
use lib.Ieee.{Float, nan, inf, fin, binary64, up, down, unlike, below, level, round, sum, neg, add, sub, mul, div, lt, eq, le}
use lib.Ieee.Fits.{down_pos, up_pos}
use borrow.Author.Tests.{lt-ltb, le-ltb, ne_eqb}
use Rattle.elementary.specs.Limits.{up_to, abs_of}
use Rattle.mirror_values.specs.Values.{Zero, Alike, equal, zeros}
use Rattle.mirror_values.proofs.Rounded.{round-nothing}

-- ---- it is an equivalence

pub zero_of : (s : Bool) → Zero (fin s 0 (pos 0))
zero_of s = record { sign = s; is = refl }

pub zero-as : {x y : Float} → x ≡ y → Zero y → Zero x
zero-as e z = record { sign = z.sign; is = e ∙ z.is }

pub alike_refl : (x : Float) → Alike x x
alike_refl x = equal refl

pub alike-sym : {x y : Float} → Alike x y → Alike y x
alike-sym (equal e) = equal (sym e)
alike-sym (zeros p q) = zeros q p

pub alike-trans : {x y z : Float} → Alike x y → Alike y z → Alike x z
alike-trans (equal e) (equal f) = equal (e ∙ f)
alike-trans (equal e) (zeros p q) = zeros (zero-as e p) q
alike-trans (zeros p q) (equal f) = zeros p (zero-as (sym f) q)
alike-trans (zeros p q) (zeros r s) = zeros p s

-- an operation that does not tell the zeros apart keeps it
pub alike-under : (f : Float → Float) → ((s t : Bool) → Alike (f (fin s 0 (pos 0))) (f (fin t 0 (pos 0)))) → {x y : Float} → Alike x y → Alike (f x) (f y)
alike-under f h (equal e) = equal (ap f e)
alike-under f h {x} {y} (zeros p q) = subst (λ (v : Float). Alike (f x) (f v)) (sym q.is) (subst (λ (v : Float). Alike (f v) (f (fin q.sign 0 (pos 0)))) (sym p.is) (h p.sign q.sign))

-- .. and a test, or what is equal to the bit
module _ {A : Type 0} (f : Float → A) where
  pub same-under : ((s t : Bool) → f (fin s 0 (pos 0)) ≡ f (fin t 0 (pos 0))) → {x y : Float} → Alike x y → f x ≡ f y
  same-under h (equal e) = ap f e
  same-under h (zeros p q) = ap f p.is ∙ h p.sign q.sign ∙ ap f (sym q.is)

-- ---- the negative

pub alike-neg : {x y : Float} → Alike x y → Alike (neg x) (neg y)
unfolding neg
alike-neg a = alike-under neg (λ s t. zeros (zero_of (not s)) (zero_of (not t))) a

-- ---- a sum

-- two fractions of one divisor with their signs, over what is rounded
abbrev pub summed : Bool → ℕ → Bool → ℕ → ℕ → Float
summed s a t b c = cond (beq s t) (round binary64 s (a + b) c) (cond (ltb a b) (round binary64 t (b - a) c) (round binary64 (s && ltb b a) (a - b) c))

pub sum-shape : (s t : Bool) (a b c : ℕ) → sum binary64 s a t b c ≡ summed s a t b c
unfolding sum
sum-shape s t a b c = refl

pub add-shape : (s t : Bool) (m n : ℕ) (e d : ℤ) → add binary64 (fin s m e) (fin t n d) ≡ summed s (m * up e * down d) t (n * up d * down e) (down e * down d)
unfolding add
add-shape s t m n e d = sum-shape s t (m * up e * down d) (n * up d * down e) (down e * down d)

-- with nothing as the second: the first is rounded, or both are nothing
sum-some : (s t : Bool) (a b c : ℕ) → b ≡ 0 → 0 < a → summed s a t b c ≡ round binary64 s a c
sum-some true true a b c e h = rw (e, add-zero a)
sum-some false false a b c e h = rw (e, add-zero a)
sum-some true false a b c e h = rw (e, le-ltb a 0 (omega arith), lt-ltb 0 a h, sub-zero a)
sum-some false true a b c e h = rw (e, le-ltb a 0 (omega arith), sub-zero a)

sum-none : (s t : Bool) (a b c : ℕ) → a ≡ 0 → b ≡ 0 → 0 < c → Zero (summed s a t b c)
sum-none true true a b c e f h = record { sign = true; is = round-nothing true (a + b) c (omega arith) h }
sum-none false false a b c e f h = record { sign = false; is = round-nothing false (a + b) c (omega arith) h }
sum-none true false a b c e f h = record { sign = false; is = rw (le-ltb a b (omega arith), le-ltb b a (omega arith)) (round-nothing false (a - b) c (omega arith) h) }
sum-none false true a b c e f h = record { sign = false; is = rw (le-ltb a b (omega arith)) (round-nothing false (a - b) c (omega arith) h) }

-- and with nothing as the first
sum-other : (s t : Bool) (a b c : ℕ) → a ≡ 0 → 0 < b → summed s a t b c ≡ round binary64 t b c
sum-other true true a b c e h = rw (e, zero-add b)
sum-other false false a b c e h = rw (e, zero-add b)
sum-other true false a b c e h = rw (e, lt-ltb 0 b h, sub-zero b)
sum-other false true a b c e h = rw (e, lt-ltb 0 b h, sub-zero b)

-- a value and a zero of any sign
plus-zero : (s t u : Bool) (m : ℕ) (e : ℤ) → Alike (add binary64 (fin u m e) (fin s 0 (pos 0))) (add binary64 (fin u m e) (fin t 0 (pos 0)))
plus-zero s t u m e =
    let a = m * up e * down (pos 0) in
    let b = 0 * up (pos 0) * down e in
    let c = down e * down (pos 0) in
    let b0 : b ≡ 0 = zero-mul (down e) in
    let cp : 0 < c = mul-pos (down_pos e) (down_pos (pos 0)) in
    subst (λ (v : Float). Alike v (add binary64 (fin u m e) (fin t 0 (pos 0)))) (sym (add-shape u s m 0 e (pos 0)))
    (subst (λ (v : Float). Alike (summed u a s b c) v) (sym (add-shape u t m 0 e (pos 0)))
    (elim (ℕ_discrete a 0) [
      | yes q ↦ zeros (sum-none u s a b c q b0 cp) (sum-none u t a b c q b0 cp)
      | no q ↦ equal (sum-some u s a b c b0 (omega arith) ∙ sym (sum-some u t a b c b0 (omega arith)))
    ]))

zero-plus : (s t u : Bool) (m : ℕ) (e : ℤ) → Alike (add binary64 (fin s 0 (pos 0)) (fin u m e)) (add binary64 (fin t 0 (pos 0)) (fin u m e))
zero-plus s t u m e =
    let a = 0 * up (pos 0) * down e in
    let b = m * up e * down (pos 0) in
    let c = down (pos 0) * down e in
    let a0 : a ≡ 0 = zero-mul (down e) in
    let cp : 0 < c = mul-pos (down_pos (pos 0)) (down_pos e) in
    subst (λ (v : Float). Alike v (add binary64 (fin t 0 (pos 0)) (fin u m e))) (sym (add-shape s u 0 m (pos 0) e))
    (subst (λ (v : Float). Alike (summed s a u b c) v) (sym (add-shape t u 0 m (pos 0) e))
    (elim (ℕ_discrete b 0) [
      | yes q ↦ zeros (sum-none s u a b c a0 q cp) (sum-none t u a b c a0 q cp)
      | no q ↦ equal (sum-other s u a b c a0 (omega arith) ∙ sym (sum-other t u a b c a0 (omega arith)))
    ]))

add-second : (x : Float) {y y' : Float} → Alike y y' → Alike (add binary64 x y) (add binary64 x y')
unfolding add
add-second nan a = equal refl
add-second (inf s) a = alike-under (add binary64 (inf s)) (λ t u. equal refl) a
add-second (fin s m e) a = alike-under (add binary64 (fin s m e)) (λ t u. plus-zero t u s m e) a

add-first : (y : Float) {x x' : Float} → Alike x x' → Alike (add binary64 x y) (add binary64 x' y)
unfolding add
add-first nan a = alike-under (λ x. add binary64 x nan) (λ t u. equal refl) a
add-first (inf s) a = alike-under (λ x. add binary64 x (inf s)) (λ t u. equal refl) a
add-first (fin s m e) a = alike-under (λ x. add binary64 x (fin s m e)) (λ t u. zero-plus t u s m e) a

pub alike-add : {x x' y y' : Float} → Alike x x' → Alike y y' → Alike (add binary64 x y) (add binary64 x' y')
alike-add {x} {x'} {y} {y'} a b = alike-trans (add-first y a) (add-second x' b)

pub sub-shape : (x y : Float) → sub binary64 x y ≡ add binary64 x (neg y)
unfolding sub
sub-shape x y = refl

pub alike-sub : {x x' y y' : Float} → Alike x x' → Alike y y' → Alike (sub binary64 x y) (sub binary64 x' y')
alike-sub {x} {x'} {y} {y'} a b = rw (sub-shape x y, sub-shape x' y') (alike-add a (alike-neg b))

-- ---- a product

pub mul-shape : (s t : Bool) (m n : ℕ) (e d : ℤ) → mul binary64 (fin s m e) (fin t n d) ≡ round binary64 (unlike s t) (m * up e * (n * up d)) (down e * down d)
unfolding mul
mul-shape s t m n e d = refl

-- with a zero of any sign it is a zero
times_zero : (s t : Bool) (m : ℕ) (e : ℤ) → Zero (mul binary64 (fin s m e) (fin t 0 (pos 0)))
times_zero s t m e = record {
  sign = unlike s t;
  is = mul-shape s t m 0 e (pos 0) ∙ round-nothing (unlike s t) (m * up e * (0 * up (pos 0))) (down e * down (pos 0)) (mul-zero (m * up e)) (mul-pos (down_pos e) (down_pos (pos 0)));
}

zero-times : (s t : Bool) (m : ℕ) (e : ℤ) → Zero (mul binary64 (fin t 0 (pos 0)) (fin s m e))
zero-times s t m e = record {
  sign = unlike t s;
  is = mul-shape t s 0 m (pos 0) e ∙ round-nothing (unlike t s) (0 * up (pos 0) * (m * up e)) (down (pos 0) * down e) (zero-mul (m * up e)) (mul-pos (down_pos (pos 0)) (down_pos e));
}

mul-second : (x : Float) {y y' : Float} → Alike y y' → Alike (mul binary64 x y) (mul binary64 x y')
unfolding mul
mul-second nan a = equal refl
mul-second (inf s) a = alike-under (mul binary64 (inf s)) (λ t u. equal refl) a
mul-second (fin s m e) a = alike-under (mul binary64 (fin s m e)) (λ t u. zeros (times_zero s t m e) (times_zero s u m e)) a

mul-first : (y : Float) {x x' : Float} → Alike x x' → Alike (mul binary64 x y) (mul binary64 x' y)
unfolding mul
mul-first nan a = alike-under (λ x. mul binary64 x nan) (λ t u. equal refl) a
mul-first (inf s) a = alike-under (λ x. mul binary64 x (inf s)) (λ t u. equal refl) a
mul-first (fin s m e) a = alike-under (λ x. mul binary64 x (fin s m e)) (λ t u. zeros (zero-times s t m e) (zero-times s u m e)) a

pub alike-mul : {x x' y y' : Float} → Alike x x' → Alike y y' → Alike (mul binary64 x y) (mul binary64 x' y')
alike-mul {x} {x'} {y} {y'} a b = alike-trans (mul-first y a) (mul-second x' b)

-- ---- a quotient, by what is equal to the bit: zeros of two signs would give two infinities

pub div-shape : (s t : Bool) (m n : ℕ) (e d : ℤ) → (n ≡ 0 → ⊥) → div binary64 (fin s m e) (fin t n d) ≡ round binary64 (unlike s t) (m * up e * down d) (n * up d * down e)
unfolding div
div-shape s t m n e d h = rw (ne_eqb n 0 h)

zero-over : (s t : Bool) (n : ℕ) (d : ℤ) → Zero (div binary64 (fin s 0 (pos 0)) (fin t (suc n) d))
zero-over s t n d = record {
  sign = unlike s t;
  is =
      div-shape s t 0 (suc n) (pos 0) d (λ q. omega arith)
      ∙ round-nothing (unlike s t) (0 * up (pos 0) * down d) (suc n * up d * down (pos 0)) (zero-mul (down d)) (mul-pos (mul-pos (zero-lt-suc n) (up_pos d)) (down_pos (pos 0)));
}

pub alike-div : {x x' : Float} (y : Float) → Alike x x' → Alike (div binary64 x y) (div binary64 x' y)
unfolding div
alike-div nan a = alike-under (λ x. div binary64 x nan) (λ t u. equal refl) a
alike-div (inf s) a = alike-under (λ x. div binary64 x (inf s)) (λ t u. zeros (zero_of (unlike t s)) (zero_of (unlike u s))) a
alike-div (fin s zero e) a = alike-under (λ x. div binary64 x (fin s zero e)) (λ t u. equal refl) a
alike-div (fin s (suc n) e) a = alike-under (λ x. div binary64 x (fin s (suc n) e)) (λ t u. zeros (zero-over t s n e) (zero-over u s n e)) a

-- ---- tests, and the magnitude

below-nothing : (t s : Bool) (a b : ℕ) → a ≡ 0 → below t a s b ≡ cond s false (ltb 0 b)
below-nothing true true a b e = rw e (le-ltb b 0 (omega arith))
below-nothing true false a b e = rw (e, zero-add b)
below-nothing false true a b e = refl
below-nothing false false a b e = rw e

nothing-below : (s t : Bool) (a b : ℕ) → b ≡ 0 → below s a t b ≡ cond s (ltb 0 a) false
nothing-below true true a b e = rw e
nothing-below true false a b e = rw (e, add-zero a)
nothing-below false true a b e = refl
nothing-below false false a b e = rw e (le-ltb a 0 (omega arith))

level-nothing : (t s : Bool) (a b : ℕ) → a ≡ 0 → level t a s b ≡ eqb 0 b
level-nothing t s a b e = rw (e, or-true (beq t s)) (and-true (eqb 0 b))
  where
    or-true : (x : Bool) → (x || true) ≡ true
    or-true true = refl
    or-true false = refl

    and-true : (x : Bool) → x && true ≡ x
    and-true true = refl
    and-true false = refl

nothing-level : (s t : Bool) (a b : ℕ) → b ≡ 0 → level s a t b ≡ eqb a 0
nothing-level s t a b e = rw e (twice (beq s t) (eqb a 0))
  where
    twice : (x y : Bool) → y && (x || y) ≡ y
    twice true true = refl
    twice false true = refl
    twice x false = refl

lt-first : (y : Float) {x x' : Float} → Alike x x' → lt x y ≡ lt x' y
unfolding lt
lt-first nan a = same-under (λ x. lt x nan) (λ t u. refl) a
lt-first (inf s) a = same-under (λ x. lt x (inf s)) (λ t u. refl) a
lt-first (fin s m e) a = same-under (λ x. lt x (fin s m e)) (λ t u. low t ∙ sym (low u)) a
  where
    low : (t : Bool) → below t (0 * up (pos 0) * down e) s (m * up e * down (pos 0)) ≡ cond s false (ltb 0 (m * up e * down (pos 0)))
    low t = below-nothing t s (0 * up (pos 0) * down e) (m * up e * down (pos 0)) (zero-mul (down e))

lt-second : (x : Float) {y y' : Float} → Alike y y' → lt x y ≡ lt x y'
unfolding lt
lt-second nan a = refl
lt-second (inf s) a = same-under (lt (inf s)) (λ t u. refl) a
lt-second (fin s m e) a = same-under (lt (fin s m e)) (λ t u. high t ∙ sym (high u)) a
  where
    high : (t : Bool) → below s (m * up e * down (pos 0)) t (0 * up (pos 0) * down e) ≡ cond s (ltb 0 (m * up e * down (pos 0))) false
    high t = nothing-below s t (m * up e * down (pos 0)) (0 * up (pos 0) * down e) (zero-mul (down e))

eq-first : (y : Float) {x x' : Float} → Alike x x' → eq x y ≡ eq x' y
unfolding eq
eq-first nan a = same-under (λ x. eq x nan) (λ t u. refl) a
eq-first (inf s) a = same-under (λ x. eq x (inf s)) (λ t u. refl) a
eq-first (fin s m e) a = same-under (λ x. eq x (fin s m e)) (λ t u. low t ∙ sym (low u)) a
  where
    low : (t : Bool) → level t (0 * up (pos 0) * down e) s (m * up e * down (pos 0)) ≡ eqb 0 (m * up e * down (pos 0))
    low t = level-nothing t s (0 * up (pos 0) * down e) (m * up e * down (pos 0)) (zero-mul (down e))

eq-second : (x : Float) {y y' : Float} → Alike y y' → eq x y ≡ eq x y'
unfolding eq
eq-second nan a = refl
eq-second (inf s) a = same-under (eq (inf s)) (λ t u. refl) a
eq-second (fin s m e) a = same-under (eq (fin s m e)) (λ t u. high t ∙ sym (high u)) a
  where
    high : (t : Bool) → level s (m * up e * down (pos 0)) t (0 * up (pos 0) * down e) ≡ eqb (m * up e * down (pos 0)) 0
    high t = nothing-level s t (m * up e * down (pos 0)) (0 * up (pos 0) * down e) (zero-mul (down e))

pub alike-lt : {x x' y y' : Float} → Alike x x' → Alike y y' → lt x y ≡ lt x' y'
alike-lt {x} {x'} {y} {y'} a b = lt-first y a ∙ lt-second x' b

pub alike-eq : {x x' y y' : Float} → Alike x x' → Alike y y' → eq x y ≡ eq x' y'
alike-eq {x} {x'} {y} {y'} a b = eq-first y a ∙ eq-second x' b

pub le-shape : (x y : Float) → le x y ≡ (lt x y || eq x y)
unfolding le
le-shape x y = refl

pub alike-le : {x x' y y' : Float} → Alike x x' → Alike y y' → le x y ≡ le x' y'
alike-le {x} {x'} {y} {y'} a b = rw (le-shape x y, le-shape x' y', alike-lt a b, alike-eq a b)

-- between bounds, as 15 and the domain have it
pub alike-up-to : (h : Float) {x x' : Float} → Alike x x' → up_to h x ≡ up_to h x'
unfolding up_to
alike-up-to h a = rw (alike-le (alike_refl (neg h)) a, alike-le a (alike_refl h))

-- without its sign, to the bit
pub alike-abs : {x x' : Float} → Alike x x' → abs_of x ≡ abs_of x'
unfolding abs_of
alike-abs a = same-under abs_of (λ t u. refl) a
