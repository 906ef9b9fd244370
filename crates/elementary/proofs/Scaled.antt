-- A value of no less than 1 / 8 times 2^-n, for n up to 1011, is exact and a normal number. So times 2^-64 it is rounded once. Assumes nothing.
use Rattle.std.proofs.Common.{◌≡◌, ℕ, zero, suc, ◌+◌, ◌-◌, ◌*◌, ◌^◌, ◌<◌, ◌≤◌, true, false, T, ℤ, pos, negsuc, ◌+ℤ◌, sym, ap, ◌∙◌, true≢false, le_trans, le_of_eq}
use Rattle.std.proofs.Common.{le_of_suc-le-suc, lt_of_le_of_lt, lt_irrefl, mul-le-mul_right, mul_assoc, mul-le-mul, lt_of_mul-lt-mul_right, mul-le-mul_left, mul-lt-mul_of_pos_right, mul-pos, one-mul}
use Rattle.std.proofs.Common.{lt_of_not-le, mul-one, mul-suc, mul_right_comm, arith, lit<, lit≤, pow_pos, pow_mono, pow-add, lt-ltb}
use native.Mathlib.Nat.{mul-mul-mul_comm}
use lib.Ieee.{Float, nan, inf, fin, binary64, up, down, round, mul, fits}
use lib.Ieee.Fits.{down_pos}
use lib.Ieee.Exact.{HasValue, round_exact}
use lib.Ieee.Scale.{round_same}
use lib.Ieee.Positive.{through}
use Rattle.elementary.specs.Exp.{power, between_minus}
use Rattle.elementary.proofs.Near.{digits}
use Rattle.elementary.proofs.Sizes.{Least, Sized}

-- y is t·2^k, to the last digit
abbrev pub Times : Float → ℤ → Float → Type 0
Times nan k y = ⊥
Times (inf s) k y = ⊥
Times (fin s m e) k y = HasValue y s (m * up e * up k) (down e * down k)

-- finite, with the sign +, and from 1 / 8 to n
abbrev pub Fair : ℕ → Float → Type 0
Fair n t = Sized false n 1 t × Least 1 8 t

-- such a value has no digit below 2^-55
last-digit : (m : ℕ) (e : ℤ) → m < 2 ^ 53 → 1 * down e ≤ m * up e * 8 → (j : ℕ) × (up e * 2 ^ 55 ≡ 2 ^ j * down e)
last-digit m (pos k) h l = (k + 55, sym (pow-add 2 k 55) ∙ sym (mul-one (2 ^ (k + 55))))
last-digit m (negsuc k) h l =
    let few : suc k ≤ 55 = le_of_suc-le-suc (lt_of_not-le (λ g. lt_irrefl (2 ^ 56) (lt_of_le_of_lt (pow_mono g) (lt_of_le_of_lt (omega (arith, l)) (few-units m h))))) in
    (55 - suc k, one-mul (2 ^ 55) ∙ ap (λ (n : ℕ). 2 ^ n) (split k few) ∙ pow-add 2 (55 - suc k) (suc k))
  where
    few-units : (m : ℕ) → m < 2 ^ 53 → m * 1 * 8 < 2 ^ 56
    few-units m h = omega (arith, h)

    split : (k : ℕ) → suc k ≤ 55 → 55 ≡ 55 - suc k + suc k
    split k h = omega arith

rearrange : (m U A P D I N : ℕ) → U * A ≡ P * D → m * U * 1 * (A * (I * N)) ≡ m * (P * I) * (D * N)
rearrange m U A P D I N h =
    ap (λ (x : ℕ). x * (A * (I * N))) (mul-one (m * U))
    ∙ sym (mul_assoc (m * U) A (I * N))
    ∙ ap (λ (x : ℕ). x * (I * N)) (mul_assoc m U A ∙ ap (λ (x : ℕ). m * x) h ∙ sym (mul_assoc m P D))
    ∙ mul-mul-mul_comm (m * P) D I N
    ∙ ap (λ (x : ℕ). x * (D * N)) (mul_assoc m P I)

-- t·2^-n is exact
scaled : (m : ℕ) (e : ℤ) (n : ℕ) → m < 2 ^ 53 → 1 * down e ≤ m * up e * 8 → m * up e ≤ 14 * down e → n ≤ 1011 →
    HasValue (round binary64 false (m * up e * 1) (down e * 2 ^ n)) false (m * up e * 1) (down e * 2 ^ n)
scaled m e n h l u b =
    let w = last-digit m e h l in
    let j = w.0 in
    let i = 1019 - n in
    let B = down e * 2 ^ n in
    let bp : 0 < B = mul-pos (down_pos e) (pow_pos n) in
    let units : 2 ^ 1074 ≡ 2 ^ 55 * (2 ^ i * 2 ^ n) = pow-add 2 55 1019 ∙ ap (λ (x : ℕ). 2 ^ 55 * x) (ap (λ (x : ℕ). 2 ^ x) (split n b) ∙ pow-add 2 i n) in
    let is : m * up e * 1 * 2 ^ 1074 ≡ m * 2 ^ (j + i) * B =
    ap (λ (x : ℕ). m * up e * 1 * x) units ∙ rearrange m (up e) (2 ^ 55) (2 ^ j) (down e) (2 ^ i) (2 ^ n) w.1 ∙ ap (λ (x : ℕ). m * x * B) (sym (pow-add 2 j i)) in
    let under : m * 2 ^ (j + i) * B < 2 ^ 2098 * B =
    lt_of_le_of_lt (le_trans (le_of_eq (sym is))
    (le_trans (mul-le-mul_right (2 ^ 1074) (le_trans (le_of_eq (mul-one (m * up e))) (le_trans u (more (down e) (2 ^ n) (pow_pos n)))))
    (le_of_eq (mul_right_comm 14 B (2 ^ 1074))))) (mul-lt-mul_of_pos_right (lit< {m = 14 * 2 ^ 1074} {n = 2 ^ 2098} tt) bp) in
    round_exact binary64 false (m * up e * 1) B m (j + i) bp h (lt_of_mul-lt-mul_right B under) is
  where
    split : (n : ℕ) → n ≤ 1011 → 1019 ≡ 1019 - n + n
    split n h = omega arith

    more : (D N : ℕ) → 0 < N → 14 * D ≤ 14 * (D * N)
    more D zero h = absurd (lt_irrefl 0 h)
    more D (suc N) h = rw (mul-suc D N) (omega arith)

-- and at least 2^-1022, so a normal number
normal : (y : Float) (A D n : ℕ) → 0 < D → HasValue y false (A * 1) (D * 2 ^ n) → 1 * D ≤ A * 8 → n ≤ 1011 → Least 1 (2 ^ 1022) y
normal (fin s m e) A D n h v l b =
    through 1 (A * 1) (m * up e) (2 ^ 1022) (D * 2 ^ n) (down e) (mul-pos h (pow_pos n))
    (le_trans (le_of_eq (one-mul (D * 2 ^ n)))
    (le_trans (mul-le-mul (le_trans (le_of_eq (sym (one-mul D))) l) (pow_mono b))
    (le_trans (le_of_eq (mul_assoc A 8 (2 ^ 1011) ∙ ap (λ (x : ℕ). x * (8 * 2 ^ 1011)) (sym (mul-one A)))) (mul-le-mul_left (A * 1) (lit≤ {m = 8 * 2 ^ 1011} {n = 2 ^ 1022} tt)))))
    (le_of_eq (sym v.1))
normal nan A D n h v l b = elim v [ ]
normal (inf _) A D n h v l b = elim v [ ]

-- times 2^-64 it is what t·2^-(n + 64) is when rounded
rounded-once : (y : Float) (A D n : ℕ) → 0 < D → HasValue y false (A * 1) (D * 2 ^ n) → mul binary64 y (fin false 1 (negsuc 63)) ≡ round binary64 false (A * 1) (D * 2 ^ (n + 64))
unfolding mul
rounded-once (fin true m e) A D n h v = absurd (true≢false v.0)
rounded-once (fin false m e) A D n h v =
    round_same binary64 false (m * up e * 1) (down e * 2 ^ 64) (A * 1) (D * 2 ^ (n + 64)) (mul-pos (down_pos e) (pow_pos 64)) (mul-pos h (pow_pos (n + 64)))
    (ap (λ (x : ℕ). x * (D * 2 ^ (n + 64))) (mul-one (m * up e))
    ∙ ap (λ (x : ℕ). m * up e * (D * x)) (pow-add 2 n 64)
    ∙ ap (λ (x : ℕ). m * up e * x) (sym (mul_assoc D (2 ^ n) (2 ^ 64)))
    ∙ sym (mul_assoc (m * up e) (D * 2 ^ n) (2 ^ 64))
    ∙ ap (λ (x : ℕ). x * 2 ^ 64) v.1
    ∙ mul_assoc (A * 1) (down e) (2 ^ 64))
rounded-once nan A D n h v = elim v [ ]
rounded-once (inf _) A D n h v = elim v [ ]

-- ---- of a float t and a power of two

pub times-exact : (t : Float) (k : ℤ) → T (fits binary64 t) → Fair 14 t → between_minus 1011 957 k → Times t k (mul binary64 t (power k))
unfolding mul power
times-exact nan k f w b = absurd w.0
times-exact (inf s) k f w b = absurd w.0
times-exact (fin true m e) k f w b = absurd (true≢false w.0.0)
times-exact (fin false m e) (negsuc p) f w b = scaled m e (suc p) (digits false m e f).0 w.1 (omega (arith, w.0.1)) b.1
times-exact (fin false m e) (pos _) f w b = elim b [ ]

pub times-normal : (t : Float) (k : ℤ) → T (fits binary64 t) → Fair 14 t → between_minus 1011 957 k → Least 1 (2 ^ 1022) (mul binary64 t (power k))
unfolding mul power
times-normal nan k f w b = absurd w.0
times-normal (inf s) k f w b = absurd w.0
times-normal (fin true m e) k f w b = absurd (true≢false w.0.0)
times-normal (fin false m e) (negsuc p) f w b =
    normal (mul binary64 (fin false m e) (power (negsuc p))) (m * up e) (down e) (suc p) (down_pos e) (times-exact (fin false m e) (negsuc p) f w b) w.1 b.1
times-normal (fin false m e) (pos _) f w b = elim b [ ]

-- k is - (n + 1), and k + 64 is - (j + 1)
once-at : (m : ℕ) (e : ℤ) (n j : ℕ) → T (fits binary64 (fin false m e)) → Fair 14 (fin false m e) → (956 ≤ j) × (j ≤ 1010) → n ≡ j + 64 →
    mul binary64 (mul binary64 (fin false m e) (power (negsuc j))) (power (negsuc 63)) ≡ mul binary64 (fin false m e) (power (negsuc n))
unfolding mul power
once-at m e n j f w b h =
    rounded-once (mul binary64 (fin false m e) (power (negsuc j))) (m * up e) (down e) (suc j) (down_pos e) (times-exact (fin false m e) (negsuc j) f w (omega (arith, b.0), omega (arith, b.1)))
    ∙ ap (λ (x : ℕ). round binary64 false (m * up e * 1) (down e * 2 ^ x)) same
  where
    same : suc j + 64 ≡ suc n
    same = omega (arith, h)

pub times-once : (t : Float) (k : ℤ) → T (fits binary64 t) → Fair 14 t → between_minus 1075 1021 k → mul binary64 (mul binary64 t (power (k +ℤ pos 64))) (power (negsuc 63)) ≡ mul binary64 t (power k)
times-once nan k f w b = absurd w.0
times-once (inf s) k f w b = absurd w.0
times-once (fin true m e) k f w b = absurd (true≢false w.0.0)
times-once (fin false m e) (negsuc n) f w b = rw (lt-ltb 64 (suc n) (omega (arith, b.0))) (once-at m e n (suc n - 65) f w (omega (arith, b.0), omega (arith, b.1)) (omega (arith, b.0)))
times-once (fin false m e) (pos _) f w b = elim b [ ]
