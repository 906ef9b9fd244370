-- The nearest whole number, by doubling and cutting: what the proof of `whole_near` cites. Assumes nothing.
use Rattle.std.proofs.Common.{◌≡◌, ℕ, zero, suc, ◌+◌, ◌-◌, ◌*◌, ◌/◌, ◌%◌, ◌^◌, ◌<◌, ◌≤◌, min, Bool, true, false, not}
use Rattle.std.proofs.Common.{◌&&◌, T, eqb, ltb, leb, ℤ, pos, negsuc, neg_ℤ, sym, refl, ap, ◌∙◌, subst, true≢false, le_trans, le_of_eq}
use Rattle.std.proofs.Common.{lt_of_lt_of_le, le_of_suc-le-suc, not-suc-le-zero, lt_of_le_of_lt, lt_irrefl, mul-le-mul_right, mul_assoc, mul_comm, lt_of_mul-lt-mul_right}
use Rattle.std.proofs.Common.{mul-lt-mul_of_pos_right, mul-pos, one-mul, lt_of_not-le, zero-mul, mul-one, mul_right_comm, le_of_mul-le-mul_right}
use Rattle.std.proofs.Common.{mul_left_comm, two-mul, arith, lit<, lit≤, eqb→eq, ltb→lt, lt→ltb, leb→le, pow_pos, pow-add, w64, SFits, to_z, ltb-false, ltb-true}
use mathlib.Core.Bool.{beq}
use native.Mathlib.Nat.{pow-succ', add-div_right, div-div-eq-div-mul, div-le_of_le-mul, zero-div}
use lib.Pow.{pow-lt}
use lib.Ieee.{Float, nan, inf, fin, binary64, up, down, sum, add, neg, lt, fits, to_unsigned, of_bits}
use mir.ValLaws.{to_z-of_z}
use lib.Ieee.Fits.{down_pos, and_l, and_r}
use lib.Ieee.Exact.{HasValue, round_exact}
use lib.Ieee.Scale.{round_same}
use lib.Ieee.Nearest.{div_same}
use Rattle.elementary.specs.Exp.{near_up, signed, whole_near, at_most}

-- a value's digits are few, and its exponent is not too low
pub digits : (s : Bool) (m : ℕ) (e : ℤ) → T (fits binary64 (fin s m e)) → (m < 2 ^ 53) × (down e ≤ 2 ^ 1074)
unfolding fits
digits s zero (pos k) h = (pow_pos 53, lit≤ tt)
digits s zero (negsuc k) h = (pow_pos 53, subst (λ (n : ℕ). n ≤ 2 ^ 1074) (sym (sym (one-mul (2 ^ suc k)) ∙ eqb→eq (1 * 2 ^ suc k) 1 h)) (lit≤ tt))
digits s (suc m) e h =
    let a = eqb (suc m % 2) 1 in
    let b = ltb (suc m) (2 ^ 53) in
    let c = leb (down e) (2 ^ 1074) in
    let abc = and_l (a && b && c) (ltb (suc m * up e) (2 ^ 1024 * down e)) h in
    (ltb→lt (suc m) (2 ^ 53) (and_r a b (and_l (a && b) c abc)), leb→le (down e) (2 ^ 1074) (and_r (a && b) c abc))

-- twice 2 ^ e, in units of the smallest value, is a power of two
lift : (e : ℤ) → down e ≤ 2 ^ 1074 → (j : ℕ) × (2 ^ j * down e ≡ 2 * up e * 2 ^ 1074)
lift (pos k) h = (suc (k + 1074), mul-one _ ∙ pow-succ' 2 (k + 1074) ∙ ap (λ (n : ℕ). 2 * n) (pow-add 2 k 1074) ∙ sym (mul_assoc 2 (2 ^ k) (2 ^ 1074)))
lift (negsuc k) h =
    let l : suc k ≤ 1074 = le_of_suc-le-suc (lt_of_not-le (λ t. lt_irrefl (2 ^ 1074) (lt_of_lt_of_le (pow-lt (t)) h))) in
    let s : 1075 - suc k + suc k ≡ 1075 = omega arith in
    (1075 - suc k, sym (pow-add 2 (1075 - suc k) (suc k)) ∙ ap (λ (n : ℕ). 2 ^ n) s)

beq_same : (s : Bool) → beq s s ≡ true
beq_same true = refl
beq_same false = refl

double : (s : Bool) (m : ℕ) (e : ℤ) → T (fits binary64 (fin s m e)) → m * up e ≤ 1075 * down e → HasValue (add binary64 (fin s m e) (fin s m e)) s (2 * (m * up e)) (down e)
unfolding add sum
double s m e f h =
    let D = down e in
    let M = m * up e in
    let L = 2 ^ 1074 in
    let dp : 0 < D = down_pos e in
    let w = digits s m e f in
    let j = (lift e w.1).0 in
    let je = (lift e w.1).1 in
    let eq : 2 * M * L ≡ m * 2 ^ j * D =
    ap (λ (n : ℕ). n * L) (mul_left_comm 2 m (up e)) ∙ mul_assoc m (2 * up e) L ∙ ap (λ (n : ℕ). m * n) (sym je) ∙ sym (mul_assoc m (2 ^ j) D) in
    let twice : 2 * M ≤ 2150 * D = omega (arith, h) in
    let bound : m * 2 ^ j * D < 2 ^ 2098 * D =
    lt_of_le_of_lt (le_trans (le_of_eq (sym eq)) (le_trans (mul-le-mul_right L twice) (le_of_eq (mul_right_comm 2150 D L)))) (mul-lt-mul_of_pos_right (lit< {m = 2150 * L} {n = 2 ^ 2098} tt) dp) in
    rw (beq_same s)
    (subst (λ (x : Float). HasValue x s (2 * M) D)
    (sym (round_same binary64 s (M * D + M * D) (D * D) (2 * M) D (mul-pos dp dp) dp (ap (λ (n : ℕ). n * D) (sym (two-mul (M * D)) ∙ sym (mul_assoc 2 M D)) ∙ mul_assoc (2 * M) D D)))
    (round_exact binary64 s (2 * M) D m j dp w.0 (lt_of_mul-lt-mul_right D bound) eq))

-- half of the next number up from twice the value
pub near-half : (M D : ℕ) → 0 < D → near_up M D ≡ (2 * M / D + 1) / 2
unfolding near_up
near-half M D h = ap (λ (n : ℕ). (2 * M + D) / n) (mul_comm 2 D) ∙ sym (div-div-eq-div-mul (2 * M + D) D 2) ∙ ap (λ (n : ℕ). n / 2) (add-div_right (2 * M) h)

abbrev minus_one : Float
minus_one = fin true 1 (pos 0)

abbrev two-64 : Float
two-64 = fin false 1 (pos 64)

-- a value a / c that is not negative and at most 2150 is cut to a / c's whole part
cut : (z : Float) (a c : ℕ) → HasValue z false a c → 0 < c → a ≤ 2150 * c → T (lt minus_one z) × T (lt z two-64) × (to_unsigned 64 z ≡ a / c)
unfolding lt to_unsigned
cut nan a c v h l = absurd v
cut (inf s) a c v h l = absurd v
cut (fin true m e) a c v h l = absurd (true≢false v.0)
cut (fin false m e) a c v h l =
    let D = down e in
    let small : m * up e ≤ 2150 * D = le_of_mul-le-mul_right {k = c} (le_trans (le_of_eq v.1) (le_trans (mul-le-mul_right D l) (le_of_eq (mul_right_comm 2150 c D)))) h in
    let q : m * up e / D ≡ a / c = div_same (m * up e) D a c (down_pos e) h v.1 in
    let ql : m * up e / D ≤ 2150 = div-le_of_le-mul D (le_trans small (le_of_eq (mul_comm 2150 D))) in (
      lt→ltb 0 (1 * 2 ^ 0 * D + m * up e * 1) (omega (arith, down_pos e)),
      lt→ltb (m * up e * 1) (1 * 2 ^ 64 * D) (omega (arith, small, down_pos e)),
      min-left (m * up e / D) ql ∙ q,
    )
  where
    min-left : (n : ℕ) → n ≤ 2150 → min n (2 ^ 64 - 1) ≡ n
    min-left n h = omega arith

-- -0.0 is cut to 0
cut-zero : (z : Float) (c : ℕ) → HasValue z true 0 c → 0 < c → T (lt minus_one z) × T (lt z two-64) × (to_unsigned 64 z ≡ 0)
unfolding lt to_unsigned
cut-zero nan c v h = absurd v
cut-zero (inf s) c v h = absurd v
cut-zero (fin false m e) c v h = absurd (true≢false (sym v.0))
cut-zero (fin true m e) c v h =
    let small : m * up e ≤ 0 = le_of_mul-le-mul_right {k = c} (le_of_eq (v.1 ∙ zero-mul (down e) ∙ sym (zero-mul c))) h in
    (lt→ltb (m * up e * 1) (1 * 2 ^ 0 * down e) (omega (arith, small, down_pos e)), lt→ltb 0 (m * up e * 1 + 1 * 2 ^ 64 * down e) (omega (arith, down_pos e)), refl)

neg_value : (z : Float) (a c : ℕ) → HasValue z true a c → HasValue (neg z) false a c
unfolding neg
neg_value nan a c v = v
neg_value (inf s) a c v = v
neg_value (fin s m e) a c v = (ap not v.0, v.1)

-- what a cut of z asks, and gives: the whole number that q is nearest to, but for the sign
pub record NearCut (z : Float) (k : ℕ) : Type 0 where
  pub above : T (lt minus_one z)
  pub below : T (lt z two-64)
  pub small : to_unsigned 64 z ≤ 2150
  pub whole : (to_unsigned 64 z + 1) / 2 ≡ k

made : (z : Float) (M D : ℕ) → HasValue z false (2 * M) D → 0 < D → M ≤ 1075 * D → NearCut z (near_up M D)
made z M D v h l =
    let r = cut z (2 * M) D v h (omega (arith, l)) in
    record {
      above = r.0;
      below = r.1;
      small = le_trans (le_of_eq r.2) (div-le_of_le-mul D (omega (arith, l, mul_comm D 2150)));
      whole = ap (λ (n : ℕ). (n + 1) / 2) r.2 ∙ sym (near-half M D h);
    }

zero-near : (D : ℕ) → 0 < D → near_up 0 D ≡ 0
zero-near D h = near-half 0 D h ∙ ap (λ (n : ℕ). (n + 1) / 2) (zero-div D)

-- q is negative: the magnitude k of its whole number, from -(q + q)
pub near-neg : (q : Float) → T (fits binary64 q) → at_most q 1075 → lt q (of_bits binary64 0) ≡ true → (k : ℕ) × (whole_near q ≡ neg_ℤ (pos k)) × NearCut (neg (add binary64 q q)) k
unfolding whole_near signed lt of_bits
near-neg nan f w t = absurd w
near-neg (inf s) f w t = absurd w
near-neg (fin true m e) f w t = (near_up (m * up e) (down e), refl, made _ (m * up e) (down e) (neg_value _ _ _ (double true m e f w)) (down_pos e) w)
near-neg (fin false m e) f w t = absurd (not-suc-le-zero (le_trans (ltb-true _ _ t) (le_of_eq (zero-mul (down e)))))

pub near-pos : (q : Float) → T (fits binary64 q) → at_most q 1075 → lt q (of_bits binary64 0) ≡ false → (k : ℕ) × (whole_near q ≡ pos k) × NearCut (add binary64 q q) k
unfolding whole_near signed lt of_bits
near-pos nan f w t = absurd w
near-pos (inf s) f w t = absurd w
near-pos (fin false m e) f w t = (near_up (m * up e) (down e), refl, made _ (m * up e) (down e) (double false m e f w) (down_pos e) w)
near-pos (fin true m e) f w t =
    let z : m * up e ≡ 0 = omega (arith, ltb-false 0 (m * up e * 1 + 0 * 2 ^ 0 * down e) t) in
    let r = cut-zero _ (down e) (subst (λ (n : ℕ). HasValue (add binary64 (fin true m e) (fin true m e)) true (2 * n) (down e)) z (double true m e f w)) (down_pos e) in (
      0,
      ap (λ (n : ℕ). neg_ℤ (pos n)) (ap (λ (n : ℕ). near_up n (down e)) z ∙ zero-near (down e) (down_pos e)),
      record { above = r.0; below = r.1; small = le_trans (le_of_eq r.2) (lit≤ tt); whole = ap (λ (n : ℕ). (n + 1) / 2) r.2 },
    )

-- ---- a small number as an i64

pub whole-fits : (n : ℕ) → n ≤ 2047 → SFits w64 (pos n)
whole-fits n h = record { sfits = omega arith }

pub neg-fits : (n : ℕ) → n ≤ 2047 → SFits w64 (neg_ℤ (pos n))
neg-fits zero h = record { sfits = omega arith }
neg-fits (suc n) h = record { sfits = omega arith }

pub as-signed : (n : ℕ) → n ≤ 2047 → to_z w64 n ≡ pos n
as-signed n h = to_z-of_z w64 (pos n) (whole-fits n h)
