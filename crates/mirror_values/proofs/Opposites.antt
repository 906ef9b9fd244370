-- Values that are each other's negatives, the sign of a zero aside, stay so in sums, differences, products and quotients; squares, magnitudes and tests of them are equal. Assumes nothing.
use mathlib.Core.Path.{◌≡◌, refl, sym, ap, subst, ◌∙◌}
use mathlib.Core.Logic.{inl, inr}
use mathlib.Core.Bool.{Bool, true, false, cond, not, ◌&&◌, beq}
use Prim.Native.Nat.{ℕ, zero, suc, ◌+◌, ◌-◌, ◌*◌, ◌<◌}
use native.Mathlib.Omega.{arith}
use native.Mathlib.Nat.{add_comm, mul-pos}
use native.Mathlib.Decide.{ℕ_discrete}
use lib.IntN.{ℤ, pos}
use lib.Dec.{eqb}
use lib.Ieee.{Float, nan, inf, fin, binary64, up, down, unlike, below, level, round, neg, add, sub, mul, div, lt, eq, le}
use lib.Ieee.Fits.{down_pos}
use borrow.Author.Tests.{lt-ltb, le-ltb, ne_eqb}
use Rattle.elementary.specs.Limits.{up_to, abs_of}
use Rattle.laws.proofs.Numbers.{order}
use Rattle.mirror_values.specs.Values.{Zero, Alike, Opposite, negative, equal, zeros}
use Rattle.mirror_values.proofs.Rounded.{neg-neg, round-not, round-nothing}
use Rattle.mirror_values.proofs.Alikes.{zero-as, alike_refl, alike-sym, alike-trans, alike-neg, summed, add-shape, sub-shape, mul-shape, div-shape}
use Rattle.mirror_values.proofs.Alikes.{le-shape, alike-add, alike-mul, alike-div, alike-up-to, alike-abs}

-- ---- turned is alike to the negative

zero-neg : {x : Float} → Zero x → Zero (neg x)
unfolding neg
zero-neg z = record { sign = not z.sign; is = ap neg z.is }

pub opposite_alike : {x y : Float} → Opposite x y → Alike (neg x) y
opposite_alike (negative e) = equal (sym e)
opposite_alike (zeros p q) = zeros (zero-neg p) q

pub alike-opposite : {x y : Float} → Alike (neg x) y → Opposite x y
alike-opposite (equal e) = negative (sym e)
alike-opposite {x} (zeros p q) = zeros (zero-as (sym (neg-neg x)) (zero-neg p)) q

pub opposite-sym : {x y : Float} → Opposite x y → Opposite y x
opposite-sym {x} {y} (negative e) = negative (sym (ap neg e ∙ neg-neg x))
opposite-sym (zeros p q) = zeros q p

-- turned twice
pub opposite-twice : {x y z : Float} → Opposite x y → Opposite y z → Alike x z
opposite-twice {x} {y} a b = alike-trans (subst (λ (v : Float). Alike v (neg y)) (neg-neg x) (alike-neg (opposite_alike a))) (opposite_alike b)

-- ---- operations on negatives

beq-not : (s t : Bool) → beq (not s) (not t) ≡ beq s t
beq-not true true = refl
beq-not true false = refl
beq-not false true = refl
beq-not false false = refl

unlike-second : (s t : Bool) → unlike s (not t) ≡ not (unlike s t)
unlike-second true true = refl
unlike-second true false = refl
unlike-second false true = refl
unlike-second false false = refl

unlike-first : (s t : Bool) → unlike (not s) t ≡ not (unlike s t)
unlike-first true true = refl
unlike-first true false = refl
unlike-first false true = refl
unlike-first false false = refl

-- like signs, and of unlike ones the larger gives its own; equal ones give +0.0 either way
summed-not : (s t : Bool) (a b c : ℕ) → 0 < c → Alike (summed (not s) a (not t) b c) (neg (summed s a t b c))
summed-not s t a b c h = elim (order a b) [
  | inl l ↦ elim (ℕ_discrete a b) [
    | yes e ↦ tie s t e
    | no n ↦ more s t (omega arith)
  ]
  | inr l ↦ less s t l
]
  where
    gone : a ≡ b → Zero (round binary64 false (a - b) c)
    gone e = record { sign = false; is = round-nothing false (a - b) c (omega arith) h }

    tie : (s t : Bool) → a ≡ b → Alike (summed (not s) a (not t) b c) (neg (summed s a t b c))
    tie true true e = equal (round-not true (a + b) c)
    tie false false e = equal (round-not false (a + b) c)
    tie true false e = rw (le-ltb a b (omega arith), le-ltb b a (omega arith)) (zeros (gone e) (zero-neg (gone e)))
    tie false true e = rw (le-ltb a b (omega arith), le-ltb b a (omega arith)) (zeros (gone e) (zero-neg (gone e)))

    more : (s t : Bool) → b < a → Alike (summed (not s) a (not t) b c) (neg (summed s a t b c))
    more true true l = equal (round-not true (a + b) c)
    more false false l = equal (round-not false (a + b) c)
    more true false l = rw (le-ltb a b (omega arith), lt-ltb b a l) (equal (round-not true (a - b) c))
    more false true l = rw (le-ltb a b (omega arith), lt-ltb b a l) (equal (round-not false (a - b) c))

    less : (s t : Bool) → a < b → Alike (summed (not s) a (not t) b c) (neg (summed s a t b c))
    less true true l = equal (round-not true (a + b) c)
    less false false l = equal (round-not false (a + b) c)
    less true false l = rw (lt-ltb a b l) (equal (round-not false (b - a) c))
    less false true l = rw (lt-ltb a b l) (equal (round-not true (b - a) c))

neg-cond : (b : Bool) (x y : Float) → neg (cond b x y) ≡ cond b (neg x) (neg y)
neg-cond true x y = refl
neg-cond false x y = refl

neg-finite : (s t : Bool) (m n : ℕ) (e d : ℤ) → Alike (add binary64 (fin (not s) m e) (fin (not t) n d)) (neg (add binary64 (fin s m e) (fin t n d)))
neg-finite s t m n e d = rw (add-shape (not s) (not t) m n e d, add-shape s t m n e d) (summed-not s t (m * up e * down d) (n * up d * down e) (down e * down d) (mul-pos (down_pos e) (down_pos d)))

pub neg-add : (x y : Float) → Alike (add binary64 (neg x) (neg y)) (neg (add binary64 x y))
unfolding neg add
neg-add nan y = equal refl
neg-add (inf s) nan = equal refl
neg-add (inf true) (inf true) = equal refl
neg-add (inf true) (inf false) = equal refl
neg-add (inf false) (inf true) = equal refl
neg-add (inf false) (inf false) = equal refl
neg-add (inf s) (fin t n d) = equal refl
neg-add (fin s m e) nan = equal refl
neg-add (fin s m e) (inf t) = equal refl
neg-add (fin s m e) (fin t n d) = neg-finite s t m n e d

times-finite : (s t : Bool) (m n : ℕ) (e d : ℤ) → mul binary64 (fin s m e) (fin (not t) n d) ≡ neg (mul binary64 (fin s m e) (fin t n d))
times-finite s t m n e d = rw (mul-shape s (not t) m n e d, mul-shape s t m n e d, unlike-second s t) (round-not (unlike s t) (m * up e * (n * up d)) (down e * down d))

finite-times : (s t : Bool) (m n : ℕ) (e d : ℤ) → mul binary64 (fin (not s) m e) (fin t n d) ≡ neg (mul binary64 (fin s m e) (fin t n d))
finite-times s t m n e d = rw (mul-shape (not s) t m n e d, mul-shape s t m n e d, unlike-first s t) (round-not (unlike s t) (m * up e * (n * up d)) (down e * down d))

pub mul-neg : (x y : Float) → mul binary64 x (neg y) ≡ neg (mul binary64 x y)
unfolding neg mul
mul-neg nan y = refl
mul-neg (inf s) nan = refl
mul-neg (inf s) (inf t) = rw (unlike-second s t)
mul-neg (inf s) (fin t n d) = rw (unlike-second s t) (sym (neg-cond (eqb n 0) nan (inf (unlike s t))))
mul-neg (fin s m e) nan = refl
mul-neg (fin s m e) (inf t) = rw (unlike-second s t) (sym (neg-cond (eqb m 0) nan (inf (unlike s t))))
mul-neg (fin s m e) (fin t n d) = times-finite s t m n e d

pub neg-mul : (x y : Float) → mul binary64 (neg x) y ≡ neg (mul binary64 x y)
unfolding neg mul
neg-mul nan y = refl
neg-mul (inf s) nan = refl
neg-mul (inf s) (inf t) = rw (unlike-first s t)
neg-mul (inf s) (fin t n d) = rw (unlike-first s t) (sym (neg-cond (eqb n 0) nan (inf (unlike s t))))
neg-mul (fin s m e) nan = refl
neg-mul (fin s m e) (inf t) = rw (unlike-first s t) (sym (neg-cond (eqb m 0) nan (inf (unlike s t))))
neg-mul (fin s m e) (fin t n d) = finite-times s t m n e d

finite-over : (s t : Bool) (m n : ℕ) (e d : ℤ) → (n ≡ 0 → ⊥) → div binary64 (fin (not s) m e) (fin t n d) ≡ neg (div binary64 (fin s m e) (fin t n d))
finite-over s t m n e d h = rw (div-shape (not s) t m n e d h, div-shape s t m n e d h, unlike-first s t) (round-not (unlike s t) (m * up e * down d) (n * up d * down e))

pub neg-div : (x y : Float) → div binary64 (neg x) y ≡ neg (div binary64 x y)
unfolding neg div
neg-div nan y = refl
neg-div (inf s) nan = refl
neg-div (inf s) (inf t) = refl
neg-div (inf s) (fin t n d) = rw (unlike-first s t)
neg-div (fin s m e) nan = refl
neg-div (fin s m e) (inf t) = rw (unlike-first s t)
neg-div (fin s m e) (fin t zero d) = rw (unlike-first s t) (sym (neg-cond (eqb m 0) nan (inf (unlike s t))))
neg-div (fin s m e) (fin t (suc n) d) = finite-over s t m (suc n) e d (λ q. omega arith)

-- ---- tests of negatives

below-not : (s t : Bool) (a b : ℕ) → below (not s) a (not t) b ≡ below t b s a
below-not true true a b = refl
below-not true false a b = refl
below-not false true a b = rw (add_comm a b)
below-not false false a b = refl

level-not : (s t : Bool) (a b : ℕ) → level (not s) a (not t) b ≡ level t b s a
level-not s t a b = elim (ℕ_discrete a b) [
  | yes e ↦ rw (e, beq-not s t, beq-swap s t)
  | no n ↦ rw (ne_eqb a b n, ne_eqb b a (λ q. n (sym q)))
]
  where
    beq-swap : (s t : Bool) → beq s t ≡ beq t s
    beq-swap true true = refl
    beq-swap true false = refl
    beq-swap false true = refl
    beq-swap false false = refl

pub neg-lt : (x y : Float) → lt (neg x) (neg y) ≡ lt y x
unfolding neg lt
neg-lt nan nan = refl
neg-lt nan (inf t) = refl
neg-lt nan (fin t n d) = refl
neg-lt (inf s) nan = refl
neg-lt (inf true) (inf true) = refl
neg-lt (inf true) (inf false) = refl
neg-lt (inf false) (inf true) = refl
neg-lt (inf false) (inf false) = refl
neg-lt (inf s) (fin t n d) = refl
neg-lt (fin s m e) nan = refl
neg-lt (fin s m e) (inf true) = refl
neg-lt (fin s m e) (inf false) = refl
neg-lt (fin s m e) (fin t n d) = below-not s t (m * up e * down d) (n * up d * down e)

pub neg-eq : (x y : Float) → eq (neg x) (neg y) ≡ eq y x
unfolding neg eq
neg-eq nan nan = refl
neg-eq nan (inf t) = refl
neg-eq nan (fin t n d) = refl
neg-eq (inf s) nan = refl
neg-eq (inf true) (inf true) = refl
neg-eq (inf true) (inf false) = refl
neg-eq (inf false) (inf true) = refl
neg-eq (inf false) (inf false) = refl
neg-eq (inf s) (fin t n d) = refl
neg-eq (fin s m e) nan = refl
neg-eq (fin s m e) (inf t) = refl
neg-eq (fin s m e) (fin t n d) = level-not s t (m * up e * down d) (n * up d * down e)

pub neg-le : (x y : Float) → le (neg x) (neg y) ≡ le y x
neg-le x y = rw (le-shape (neg x) (neg y), le-shape y x, neg-lt x y, neg-eq x y)

pub neg-up-to : (h x : Float) → up_to h (neg x) ≡ up_to h x
unfolding up_to
neg-up-to h x = rw (neg-le h x, other) (swap (le x h) (le (neg h) x))
  where
    other : le (neg x) h ≡ le (neg h) x
    other = sym (ap (le (neg x)) (neg-neg h)) ∙ neg-le x (neg h)

    swap : (a b : Bool) → a && b ≡ b && a
    swap true true = refl
    swap true false = refl
    swap false true = refl
    swap false false = refl

pub neg-abs : (x : Float) → abs_of (neg x) ≡ abs_of x
unfolding neg abs_of
neg-abs nan = refl
neg-abs (inf s) = refl
neg-abs (fin s m e) = refl

-- ---- turned values stay so

pub opposite-neg : {x x' : Float} → Opposite x x' → Opposite (neg x) (neg x')
opposite-neg a = alike-opposite (alike-neg (opposite_alike a))

pub opposite-add : {x x' y y' : Float} → Opposite x x' → Opposite y y' → Opposite (add binary64 x y) (add binary64 x' y')
opposite-add {x} {x'} {y} {y'} a b = alike-opposite (alike-trans (alike-sym (neg-add x y)) (alike-add (opposite_alike a) (opposite_alike b)))

pub opposite-sub : {x x' y y' : Float} → Opposite x x' → Opposite y y' → Opposite (sub binary64 x y) (sub binary64 x' y')
opposite-sub {x} {x'} {y} {y'} a b = rw (sub-shape x y, sub-shape x' y') (opposite-add a (opposite-neg b))

-- a product with what is equal to the bit, on either side
pub opposite-scaled : (w : Float) {x x' : Float} → Opposite x x' → Opposite (mul binary64 w x) (mul binary64 w x')
opposite-scaled w {x} {x'} a = alike-opposite (alike-trans (equal (sym (mul-neg w x))) (alike-mul (alike_refl w) (opposite_alike a)))

pub opposite-times : (w : Float) {x x' : Float} → Opposite x x' → Opposite (mul binary64 x w) (mul binary64 x' w)
opposite-times w {x} {x'} a = alike-opposite (alike-trans (equal (sym (neg-mul x w))) (alike-mul (opposite_alike a) (alike_refl w)))

pub opposite-div : (w : Float) {x x' : Float} → Opposite x x' → Opposite (div binary64 x w) (div binary64 x' w)
opposite-div w {x} {x'} a = alike-opposite (alike-trans (equal (sym (neg-div x w))) (alike-div w (opposite_alike a)))

-- a product of two that are turned has its sign back
pub opposite-product : {x x' y y' : Float} → Opposite x x' → Opposite y y' → Alike (mul binary64 x y) (mul binary64 x' y')
opposite-product {x} {x'} {y} {y'} a b = alike-trans (equal (sym (mul-neg (neg x) y ∙ ap neg (neg-mul x y) ∙ neg-neg (mul binary64 x y)))) (alike-mul (opposite_alike a) (opposite_alike b))

-- a square is equal to the bit: of a zero it is +0.0
pub opposite-square : {x x' : Float} → Opposite x x' → mul binary64 x x ≡ mul binary64 x' x'
opposite-square {x} {x'} (negative e) = sym (rw e (mul-neg (neg x) x ∙ ap neg (neg-mul x x) ∙ neg-neg (mul binary64 x x)))
opposite-square {x} {x'} (zeros p q) = rw (p.is, q.is) (square p.sign ∙ sym (square q.sign))
  where
    like : (s : Bool) → unlike s s ≡ false
    like true = refl
    like false = refl

    square : (s : Bool) → mul binary64 (fin s 0 (pos 0)) (fin s 0 (pos 0)) ≡ fin false 0 (pos 0)
    square s =
        mul-shape s s 0 0 (pos 0) (pos 0)
        ∙ ap (λ (b : Bool). round binary64 b (0 * up (pos 0) * (0 * up (pos 0))) (down (pos 0) * down (pos 0))) (like s)
        ∙ round-nothing false (0 * up (pos 0) * (0 * up (pos 0))) (down (pos 0) * down (pos 0)) refl (mul-pos (down_pos (pos 0)) (down_pos (pos 0)))

pub opposite-up-to : (h : Float) {x x' : Float} → Opposite x x' → up_to h x ≡ up_to h x'
opposite-up-to h {x} {x'} a = sym (neg-up-to h x) ∙ alike-up-to h (opposite_alike a)

pub opposite-abs : {x x' : Float} → Opposite x x' → abs_of x ≡ abs_of x'
opposite-abs {x} {x'} a = sym (neg-abs x) ∙ alike-abs (opposite_alike a)
