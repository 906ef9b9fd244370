-- A number's leading digit: what the proof of `ln` cites. Assumes nothing.
use Rattle.std.proofs.Common.{◌≡◌, ℕ, zero, suc, ◌+◌, ◌-◌, ◌*◌, ◌/◌, ◌%◌, ◌^◌, ◌<◌, ◌≤◌, sym, refl, ap, ◌∙◌, le_trans, le_of_eq, lt_of_lt_of_le}
use Rattle.std.proofs.Common.{le_of_suc-le-suc, lt_of_le_of_lt, lt_irrefl, mul-le-mul_right, le_antisymm, lt_of_mul-lt-mul_right, mul-pos, one-mul, lt_of_not-le, zero-mul}
use Rattle.std.proofs.Common.{mul-one, not-le_of_lt, le_of_mul-le-mul_right, div-one, mul_left_comm, arith, pow_pos, pow_mono, pow-add}
use native.Mathlib.Nat.{pow-succ'}
use native.Mathlib.Nat.{div-div-eq-div-mul}
use lib.Count.{count_trailing_zeros, under}
use lib.Ieee.{size}
use lib.Ieee.Digits.{size-le, size-lt}

-- ---- the size of a number without its last zeros

pub under_back : (a b : ℕ) → 2 ^ a < 2 ^ b → a < b
under_back a b h = lt_of_not-le (λ (g : b ≤ a). not-le_of_lt h (pow_mono g))

size_is : (a n : ℕ) → 2 ^ a ≤ n → n < 2 ^ suc a → size n ≡ suc a
size_is a n lo hi = le_antisymm (size-le n (suc a) hi) (under_back a (size n) (lt_of_le_of_lt lo (size-lt n)))

-- n = m * 2 ^ t has its leading digit at j, so m has it at j - t
pub cut-size : (m t n j : ℕ) → m * 2 ^ t ≡ n → 2 ^ j ≤ n → n < 2 ^ suc j → (t ≤ j) × (size m ≡ suc (j - t))
cut-size zero t n j e lo hi = absurd (lt_irrefl 0 (lt_of_lt_of_le (pow_pos j) (le_trans lo (le_of_eq (sym e ∙ zero-mul (2 ^ t))))))
cut-size (suc m) t n j e lo hi =
    let l : t ≤ j = le_of_suc-le-suc (under_back t (suc j) (lt_of_le_of_lt (le_trans (le_of_eq (sym (one-mul (2 ^ t)))) (le_trans (mul-le-mul_right (2 ^ t) (omega arith)) (le_of_eq e))) hi)) in
    let s : j - t + t ≡ j = omega arith in
    let s2 : suc (j - t) + t ≡ suc j = omega arith in (
      l,
      size_is (j - t) (suc m)
          (le_of_mul-le-mul_right {k = 2 ^ t} (le_trans (le_of_eq (sym (pow-add 2 (j - t) t) ∙ ap (λ (x : ℕ). 2 ^ x) s)) (le_trans lo (le_of_eq (sym e)))) (pow_pos t))
          (lt_of_mul-lt-mul_right (2 ^ t) (lt_of_le_of_lt (le_of_eq e) (lt_of_lt_of_le hi (le_of_eq (ap (λ (x : ℕ). 2 ^ x) (sym s2) ∙ pow-add 2 (suc (j - t)) t))))),
    )

-- ---- the zeros at a number's end

twice_half : (n : ℕ) → n % 2 ≡ 0 → 2 * (n / 2) ≡ n
twice_half n e = omega arith

-- (lib.Ieee.Digits has it, private)
pub tz_div : (d n : ℕ) → n / 2 ^ count_trailing_zeros d n * 2 ^ count_trailing_zeros d n ≡ n
unfolding count_trailing_zeros
tz_div zero n = mul-one (n / 1) ∙ div-one n
tz_div (suc d) n = go (n % 2) refl (tz_div d (n / 2))
  where
    go : (r : ℕ) → n % 2 ≡ r → n / 2 / 2 ^ count_trailing_zeros d (n / 2) * 2 ^ count_trailing_zeros d (n / 2) ≡ n / 2 → n / 2 ^ under r
        (count_trailing_zeros d (n / 2)) * 2 ^ under r (count_trailing_zeros d (n / 2)) ≡ n
    go zero e ih =
        let t = count_trailing_zeros d (n / 2) in
        ap (λ (x : ℕ). n / x * x) (pow-succ' 2 t)
        ∙ ap (λ (x : ℕ). x * (2 * 2 ^ t)) (sym (div-div-eq-div-mul n 2 (2 ^ t)))
        ∙ mul_left_comm (n / 2 / 2 ^ t) 2 (2 ^ t)
        ∙ ap (λ (x : ℕ). 2 * x) ih
        ∙ twice_half n e
    go (suc r) e ih = mul-one (n / 1) ∙ div-one n

half_pos : (n : ℕ) → 0 < n → n % 2 ≡ 0 → 0 < n / 2
half_pos n h e = omega arith

half-under : (n p : ℕ) → n < 2 * p → n / 2 < p
half-under n p h = omega arith

-- one place more to look at finds nothing more
tz-more : (d a : ℕ) → 0 < a → a < 2 ^ d → count_trailing_zeros (suc d) a ≡ count_trailing_zeros d a
unfolding count_trailing_zeros
tz-more zero a p h = absurd (lt_irrefl 0 (lt_of_lt_of_le p (le_of_suc-le-suc h)))
tz-more (suc d) a p h = go (a % 2) refl (tz-more d (a / 2))
  where
    go : (r : ℕ) → a % 2 ≡ r → (0 < a / 2 → a / 2 < 2 ^ d → count_trailing_zeros (suc d) (a / 2) ≡ count_trailing_zeros d (a / 2)) → under r
        (count_trailing_zeros (suc d) (a / 2)) ≡ under r (count_trailing_zeros d (a / 2))
    go zero e ih = ap suc (ih (half_pos a p e) (half-under a (2 ^ d) (lt_of_lt_of_le h (le_of_eq (pow-succ' 2 d)))))
    go (suc r) e ih = refl

-- twice a number has one zero more
tz-twice : (d a : ℕ) → 0 < a → 2 * a < 2 ^ d → count_trailing_zeros d (2 * a) ≡ suc (count_trailing_zeros d a)
unfolding count_trailing_zeros
tz-twice zero a p h = absurd (lt_irrefl 0 (lt_of_lt_of_le p (half a h)))
  where
    half : (a : ℕ) → 2 * a < 1 → a ≤ 0
    half a h = omega arith
tz-twice (suc d) a p h =
    let e : 2 * a % 2 ≡ 0 = omega arith in
    let f : 2 * a / 2 ≡ a = omega arith in
    ap (λ (r : ℕ). under r (count_trailing_zeros d (2 * a / 2))) e
    ∙ ap (λ (x : ℕ). suc (count_trailing_zeros d x)) f
    ∙ ap suc (sym (tz-more d a p (half_lt a (2 ^ d) (lt_of_lt_of_le h (le_of_eq (pow-succ' 2 d))))))
  where
    half_lt : (a p : ℕ) → 2 * a < 2 * p → a < p
    half_lt a p h = omega arith

-- shifted up by z it has z more
pub tz_shift : (z d a : ℕ) → 0 < a → a * 2 ^ z < 2 ^ d → count_trailing_zeros d (a * 2 ^ z) ≡ count_trailing_zeros d a + z
tz_shift zero d a p h = ap (count_trailing_zeros d) (mul-one a) ∙ sym (add_none (count_trailing_zeros d a))
  where
    add_none : (n : ℕ) → n + 0 ≡ n
    add_none n = omega arith
tz_shift (suc z) d a p h =
    let e : a * 2 ^ suc z ≡ 2 * (a * 2 ^ z) = ap (λ (x : ℕ). a * x) (pow-succ' 2 z) ∙ mul_left_comm a 2 (2 ^ z) in
    let l : 2 * (a * 2 ^ z) < 2 ^ d = lt_of_le_of_lt (le_of_eq (sym e)) h in
    ap (count_trailing_zeros d) e
    ∙ tz-twice d (a * 2 ^ z) (mul-pos p (pow_pos z)) l
    ∙ ap suc (tz_shift z d a p (under_twice (a * 2 ^ z) (2 ^ d) l))
    ∙ suc-out (count_trailing_zeros d a) z
  where
    under_twice : (x y : ℕ) → 2 * x < y → x < y
    under_twice x y h = omega arith

    suc-out : (x z : ℕ) → suc (x + z) ≡ x + suc z
    suc-out x z = omega arith
