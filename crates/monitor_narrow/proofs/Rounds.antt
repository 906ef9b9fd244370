-- Narrowing by the exponent's bits and the digits of a double: how many digits go, what is kept of the others, and the pattern that this makes. Assumes nothing.
use mathlib.Core.Path.{◌≡◌, refl, sym, ap, ◌∙◌, subst}
use Prim.Native.Nat.{ℕ, zero, suc, ◌+◌, ◌-◌, ◌*◌, ◌/◌, ◌%◌, ◌^◌, ◌≤◌, ◌<◌, compare, Ordering}
use native.Mathlib.Nat.{le_refl, le_trans, le_of_eq, lt_of_le_of_lt, lt_of_lt_of_le, eq-or-lt_of_le, mul_assoc, mul_comm, mul-le-mul_right, mul-le-mul, mul-pos}
use native.Mathlib.Nat.{mul-lt-mul_of_pos_right, zero-lt-suc, zero-add, lt_irrefl, not-le_of_lt, lt_of_not-le, le_of_suc-le-suc, le_of_mul-le-mul_right}
use native.Mathlib.Nat.{lt_of_mul-lt-mul_right, div-div-eq-div-mul, le-div_iff_mul-le, div-lt_iff_lt-mul, div-eq_of_lt, mod-eq_of_lt}
use native.Mathlib.Omega.{arith}
use native.Mathlib.Decide.{dec_lt}
use mathlib.Core.Logic.{inl, inr}
use mathlib.Core.Bool.{Bool, true, false, cond, true≢false}
use lib.Dec.{leb, ltb, is_le, compare_is_eq, lit≤, lit<}
use lib.Pow.{pow-add, pow_pos, pow_mono, shl_lt}
use lib.Ieee.{Float, nan, inf, fin, binary32, binary64, up, down, size, nearest, odd, units, round, of_bits, to_bits}
use lib.Ieee.Digits.{size-lt, size-le, size_reaches}
use lib.Ieee.Fits.{down_pos, kept-lt, nearest-le, round_is}
use lib.Ieee.Exact.{HasValue, odd_sign}
use lib.Ieee.Nearest.{closest, closest_same, nearest-ge}
use lib.Ieee.Order.{drop, kept}
use lib.Ieee.Scale.{finite, round_same}
use borrow.Author.Tests.{eq-eqb, ne_eqb, lt-ltb, le-ltb, le-leb, lt-leb}
use Rattle.elementary.proofs.Digits.{under_back}
use Rattle.std.specs.Prelude.{Option, Some, None}
use Rattle.monitor_narrow.specs.Narrow.{single_of, told_single}
use Rattle.monitor_narrow.proofs.Patterns.{pattern, lead_of, fields_value, fields-finite}

-- ---- q · 2^k smallest single-precision values: the pattern, and where it is past the largest

-- the pattern w with a sign, or none from the infinity's on
abbrev pub telling : Bool → ℕ → Option ℕ
telling s w = cond (ltb w (255 * 2 ^ 23)) (Some (cond s (2 ^ 31) 0 + w)) None

module _ (q k : ℕ) (most : q ≤ 2 ^ 24) (lead : 0 < k → 2 ^ 23 ≤ q) where
  pub below-limit : q * 2 ^ k < 2 ^ 277 → k * 2 ^ 23 + q < 255 * 2 ^ 23
  below-limit h = elim (dec_lt k 253) [
    | yes l ↦ omega arith
    | no n ↦ elim (dec_lt k 254) [
      | yes l ↦
          let e : k ≡ 253 = omega arith in
          let l : q < 2 ^ 24 = lt_of_mul-lt-mul_right (2 ^ 253) (rw e at h) in
          omega arith
      | no m ↦
          let l : 254 ≤ k = omega arith in
          absurd (not-le_of_lt h (le_trans (le_of_eq (pow-add 2 23 254)) (mul-le-mul (lead (omega arith)) (pow_mono l))))
    ]
  ]

  pub above-limit : 2 ^ 277 ≤ q * 2 ^ k → 255 * 2 ^ 23 ≤ k * 2 ^ 23 + q
  above-limit h = elim (dec_lt k 253) [
    | yes l ↦
        let m : k ≤ 252 = omega arith in
        absurd (not-le_of_lt (lt_of_le_of_lt (mul-le-mul most (pow_mono m)) (lit< {m = 2 ^ 24 * 2 ^ 252} {n = 2 ^ 277} tt)) h)
    | no n ↦ elim (dec_lt k 254) [
      | yes l ↦
          let e : k ≡ 253 = omega arith in
          let m : 2 ^ 24 ≤ q = le_of_mul-le-mul_right (rw e at h) (pow_pos 253) in
          omega arith
      | no m ↦ omega (arith, lead (omega arith))
    ]
  ]

  -- the pattern of 2^24 is that of 2^23 with one digit more dropped
  whole-pattern : (v : Float) (s : Bool) → HasValue v s (q * 2 ^ k) (2 ^ 149) → to_bits binary32 v ≡ cond s (2 ^ 31) 0 + (k * 2 ^ 23 + q)
  whole-pattern v s h = elim (eq-or-lt_of_le most) [
    | inr l ↦ pattern binary32 v s q k h l lead
    | inl e ↦
        let d : q * 2 ^ k ≡ 2 ^ 23 * 2 ^ (k + 1) = rw (e, pow-add 2 k 1, mul_comm (2 ^ k) (2 ^ 1)) (mul_assoc (2 ^ 23) (2 ^ 1) (2 ^ k)) in
        pattern binary32 v s (2 ^ 23) (k + 1) (rw d at h) (lit< tt) (λ l. le_refl (2 ^ 23)) ∙ ap (λ (x : ℕ). cond s (2 ^ 31) 0 + x) (omega arith)
  ]

  finite-told : (v : Float) (s : Bool) → HasValue v s (q * 2 ^ k) (2 ^ 149) → told_single v ≡ Some (cond s (2 ^ 31) 0 + (k * 2 ^ 23 + q))
  unfolding told_single
  finite-told nan s h = absurd h
  finite-told (inf t) s h = absurd h
  finite-told (fin t m e) s h = ap Some (whole-pattern (fin t m e) s h)

  pub told-units : (s : Bool) → told_single (units binary32 s q k) ≡ telling s (k * 2 ^ 23 + q)
  unfolding units told_single
  told-units s = elim (dec_lt (q * 2 ^ k) (2 ^ 277)) [
    | yes l ↦ rw (lt-ltb (q * 2 ^ k) (2 ^ 277) l, lt-ltb (k * 2 ^ 23 + q) (255 * 2 ^ 23) (below-limit l)) (finite-told (odd 25 s q k 149) s (odd_sign 25 s q k 149))
    | no n ↦ let m : 2 ^ 277 ≤ q * 2 ^ k = le_of_suc-le-suc (lt_of_not-le n) in rw (le-ltb (q * 2 ^ k) (2 ^ 277) m, le-ltb (k * 2 ^ 23 + q) (255 * 2 ^ 23) (above-limit m))
  ]

-- ---- what `round` keeps and drops

pub kept-most : (n c : ℕ) → kept 24 n c ≤ 2 ^ 24
kept-most n c =
    let k = drop 24 n c in
    let u = c * 2 ^ k in
    le_trans (nearest-le (n / u) (compare (n % u * 2) u)) (subst (λ (x : ℕ). x < 2 ^ 24) (div-div-eq-div-mul n c (2 ^ k)) (kept-lt 24 (n / c)))

-- where digits are dropped, the leading one is kept
pub whole-lead : (n c : ℕ) → 0 < drop 24 n c → 2 ^ 23 ≤ n / (c * 2 ^ drop 24 n c)
whole-lead n c h =
    let k = drop 24 n c in
    let a : 2 ^ 23 * 2 ^ k ≤ n / c = le_trans (le_of_eq (sym (pow-add 2 23 k))) (size_reaches (n / c) (23 + k) (in_use (size (n / c)) h)) in
    subst (λ (x : ℕ). 2 ^ 23 ≤ x) (div-div-eq-div-mul n c (2 ^ k)) ((le-div_iff_mul-le (pow_pos k)).1 a)
  where
    in_use : (z : ℕ) → 0 < z - 24 → 23 + (z - 24) < z
    in_use z h = omega arith

pub kept-least : (n c : ℕ) → 0 < drop 24 n c → 2 ^ 23 ≤ kept 24 n c
kept-least n c h = let u = c * 2 ^ drop 24 n c in le_trans (whole-lead n c h) (nearest-ge (n / u) (compare (n % u * 2) u))

-- a value that is a / c in size, rounded and narrowed
pub single-units : (v : Float) (s : Bool) (a c : ℕ) → 0 < c → HasValue v s a c → single_of v ≡ units binary32 s (kept 24 (a * 2 ^ 149) c) (drop 24 (a * 2 ^ 149) c)
unfolding single_of
single-units nan s a c p h = absurd h
single-units (inf t) s a c p h = absurd h
single-units (fin t m e) s a c p h = ap (λ (u : Bool). round binary32 u (m * up e) (down e)) h.0 ∙ round_same binary32 s (m * up e) (down e) a c (down_pos e) p h.1 ∙ round_is binary32 s a c

pub told-value : (v : Float) (s : Bool) (a c : ℕ) → 0 < c → HasValue v s a c → told_single (single_of v) ≡ telling s (drop 24 (a * 2 ^ 149) c * 2 ^ 23 + kept 24 (a * 2 ^ 149) c)
told-value v s a c p h =
    let n = a * 2 ^ 149 in
    ap told_single (single-units v s a c p h) ∙ told-units (kept 24 n c) (drop 24 n c) (kept-most n c) (kept-least n c) s

-- ---- the exponent's bits and the digits of a double

abbrev pub field64 : ℕ → ℕ
field64 b = b % 2 ^ 63 / 2 ^ 52

abbrev pub digits64 : ℕ → ℕ
digits64 b = b % 2 ^ 52

abbrev pub lead64 : ℕ → ℕ
lead64 b = lead_of binary64 (field64 b) (digits64 b)

pub double-value : (b : ℕ) → field64 b < 2047 → HasValue (of_bits binary64 b) (leb (2 ^ 63) b) (lead64 b * 2 ^ (field64 b - 1)) (2 ^ 1074)
unfolding of_bits
double-value b h = fields_value binary64 (leb (2 ^ 63) b) (field64 b) (digits64 b) h

pub double-finite : (b : ℕ) → finite (of_bits binary64 b) ≡ ltb (field64 b) 2047
unfolding of_bits
double-finite b = fields-finite binary64 (leb (2 ^ 63) b) (field64 b) (digits64 b) (omega arith)

pub lead-most : (b : ℕ) → lead64 b < 2 ^ 53
lead-most b = go (field64 b)
  where
    go : (x : ℕ) → lead_of binary64 x (digits64 b) < 2 ^ 53
    go zero = omega arith
    go (suc x) = omega arith

pub lead_is : (b : ℕ) → 0 < field64 b → lead64 b ≡ 2 ^ 52 + digits64 b
lead_is b = go (field64 b)
  where
    go : (x : ℕ) → 0 < x → lead_of binary64 x (digits64 b) ≡ 2 ^ 52 + digits64 b
    go zero h = absurd (lt_irrefl 0 h)
    go (suc x) h = refl

-- ---- what `compare` says

pub compare-less : (a b : ℕ) → a < b → compare a b ≡ Ordering.lt
compare-less a b h = go (compare a b) (le-leb a b (omega arith)) (ne_eqb a b (λ e. omega arith))
  where
    go : (o : Ordering) → is_le o ≡ true → compare_is_eq o ≡ false → o ≡ Ordering.lt
    go Ordering.lt h e = refl
    go Ordering.eq h e = absurd (true≢false e)
    go Ordering.gt h e = absurd (true≢false (sym h))

pub compare_same : (a b : ℕ) → a ≡ b → compare a b ≡ Ordering.eq
compare_same a b h = go (compare a b) (eq-eqb a b h)
  where
    go : (o : Ordering) → compare_is_eq o ≡ true → o ≡ Ordering.eq
    go Ordering.lt e = absurd (true≢false (sym e))
    go Ordering.eq e = refl
    go Ordering.gt e = absurd (true≢false (sym e))

pub compare-next : (a b : ℕ) → b < a → compare a b ≡ Ordering.gt
compare-next a b h = go (compare a b) (lt-leb a b h)
  where
    go : (o : Ordering) → is_le o ≡ false → o ≡ Ordering.gt
    go Ordering.lt e = absurd (true≢false e)
    go Ordering.eq e = absurd (true≢false e)
    go Ordering.gt e = refl

-- less than a half is nearest to 0
closest-none : (n u : ℕ) → n * 2 < u → closest n u ≡ 0
closest-none n u h =
    let l : n < u = omega arith in
    ap (λ (x : ℕ). nearest x (compare (n % u * 2) u)) (div-eq_of_lt l)
    ∙ ap (λ (x : ℕ). nearest 0 (compare (x * 2) u)) (mod-eq_of_lt l)
    ∙ ap (nearest 0) (compare-less (n * 2) u h)

-- ---- how many digits go

drop-none : (n c : ℕ) → 0 < c → n < 2 ^ 24 * c → drop 24 n c ≡ 0
drop-none n c p h = go (size (n / c)) (size-le (n / c) 24 ((div-lt_iff_lt-mul p).1 h))
  where
    go : (z : ℕ) → z ≤ 24 → z - 24 ≡ 0
    go z l = omega arith

drop-some : (n c k : ℕ) → 0 < c → 2 ^ (23 + k) * c ≤ n → n < 2 ^ (24 + k) * c → drop 24 n c ≡ k
drop-some n c k p lo hi = go (size (n / c)) (size-le (n / c) (24 + k) ((div-lt_iff_lt-mul p).1 hi)) (under_back (23 + k) (size (n / c)) (lt_of_le_of_lt ((le-div_iff_mul-le p).1 lo) (size-lt (n / c))))
  where
    go : (z : ℕ) → z ≤ 24 + k → 23 + k < z → z - 24 ≡ k
    go z a b = omega arith

-- ---- a double's digits m at place x, in units of the smallest single-precision value: m · 2^x · 2^149 / 2^1074

pub scaled : (m a b : ℕ) → m * 2 ^ a * 2 ^ b ≡ m * 2 ^ (a + b)
scaled m a b = mul_assoc m (2 ^ a) (2 ^ b) ∙ ap (λ (y : ℕ). m * y) (sym (pow-add 2 a b))

cross : (m a b c d e : ℕ) → a + b + c ≡ d + e → m * 2 ^ a * 2 ^ b * 2 ^ c ≡ m * (2 ^ d * 2 ^ e)
cross m a b c d e h = ap (λ (y : ℕ). y * 2 ^ c) (scaled m a b) ∙ scaled m (a + b) c ∙ ap (λ (y : ℕ). m * 2 ^ y) h ∙ ap (λ (y : ℕ). m * y) (pow-add 2 d e)

module _ (m x : ℕ) (most : m < 2 ^ 53) where
  abbrev n : ℕ
  n = m * 2 ^ x * 2 ^ 149

  under : (j : ℕ) → 53 + x + 149 ≤ j → n < 2 ^ j
  under j h = lt_of_lt_of_le (shl_lt (53 + x) 149 (shl_lt 53 x most)) (pow_mono h)

  low-drop : x ≤ 895 → drop 24 n (2 ^ 1074) ≡ 0
  low-drop h = drop-none n (2 ^ 1074) (pow_pos 1074) (lt_of_lt_of_le (under (24 + 1074) (omega arith)) (le_of_eq (pow-add 2 24 1074)))

  pub tiny-kept : x ≤ 871 → kept 24 n (2 ^ 1074) ≡ 0
  tiny-kept h =
      ap (λ (k : ℕ). closest n (2 ^ 1074 * 2 ^ k)) (low-drop (omega arith))
      ∙ closest-none n (2 ^ 1074 * 2 ^ 0) (lt_of_lt_of_le (mul-lt-mul_of_pos_right (under 1073 (omega arith)) (zero-lt-suc 1)) (lit≤ tt))

  pub tiny-drop : x ≤ 871 → drop 24 n (2 ^ 1074) ≡ 0
  tiny-drop h = low-drop (omega arith)

  pub low-magnitude : 872 ≤ x → x ≤ 895 → drop 24 n (2 ^ 1074) * 2 ^ 23 + kept 24 n (2 ^ 1074) ≡ closest m (2 ^ (925 - x))
  low-magnitude l h =
      ap (λ (k : ℕ). k * 2 ^ 23 + closest n (2 ^ 1074 * 2 ^ k)) (low-drop h)
      ∙ zero-add (closest n (2 ^ 1074 * 2 ^ 0))
      ∙ closest_same n (2 ^ 1074 * 2 ^ 0) m (2 ^ (925 - x)) (mul-pos (pow_pos 1074) (pow_pos 0)) (pow_pos (925 - x)) (cross m x 149 (925 - x) 1074 0 (omega arith))

  pub high-magnitude : 2 ^ 52 ≤ m → 896 ≤ x → drop 24 n (2 ^ 1074) * 2 ^ 23 + kept 24 n (2 ^ 1074) ≡ (x - 896) * 2 ^ 23 + closest m (2 ^ 29)
  high-magnitude least h =
      let k = x - 896 in
      let lo : 2 ^ (23 + k) * 2 ^ 1074 ≤ n = le_trans
      (le_of_eq (sym (pow-add 2 (23 + k) 1074) ∙ ap (λ (y : ℕ). 2 ^ y) (sum k refl) ∙ pow-add 2 (52 + x) 149 ∙ ap (λ (y : ℕ). y * 2 ^ 149) (pow-add 2 52 x)))
      (mul-le-mul_right (2 ^ 149) (mul-le-mul_right (2 ^ x) least)) in
      let hi : n < 2 ^ (24 + k) * 2 ^ 1074 = lt_of_lt_of_le (under (24 + k + 1074) (omega arith)) (le_of_eq (pow-add 2 (24 + k) 1074)) in
      ap (λ (j : ℕ). j * 2 ^ 23 + closest n (2 ^ 1074 * 2 ^ j)) (drop-some n (2 ^ 1074) k (pow_pos 1074) lo hi)
      ∙ ap (λ (y : ℕ). k * 2 ^ 23 + y) (closest_same n (2 ^ 1074 * 2 ^ k) m (2 ^ 29) (mul-pos (pow_pos 1074) (pow_pos k)) (pow_pos 29) (cross m x 149 29 1074 k (omega arith)))
    where
      sum : (k : ℕ) → k ≡ x - 896 → 23 + k + 1074 ≡ 52 + x + 149
      sum k e = omega arith
