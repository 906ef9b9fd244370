-- What the proofs of exp's pieces cite. Assumes nothing.
use Rattle.std.proofs.Common.{◌≡◌, ℕ, zero, suc, ◌+◌, ◌-◌, ◌*◌, ◌/◌, ◌%◌, ◌^◌, ◌<◌, ◌≤◌, Bool, false, leb}
use Rattle.std.proofs.Common.{ℤ, pos, negsuc, ◌+ℤ◌, refl, ap, ◌∙◌, not-suc-le-zero, mod-eq_of_lt, mul-div_cancel, arith, pow_pos, le-ltb, ne_eqb, le-leb}
use native.Mathlib.Nat.{mul-mod_left}
use lib.Count.{count_trailing_zeros}
use borrow.Author.Tests.{lt-leb}
use lib.Ieee.{Float, fin, binary64, add, mul, div, of_bits, of_int, of_fields, odd, minus}
use Rattle.elementary.specs.Exp.{series, power, in_exp}
use Rattle.laws.specs.Area.{one64}

pred : (g : ℕ) → suc g - 1 ≡ g
pred g = omega arith

pub series-step : (r t : Float) (m : ℕ) → 0 < m → series r (m - 1) (add binary64 one64 (mul binary64 (div binary64 r (of_int binary64 (pos m))) t)) ≡ series r m t
unfolding series
series-step r t zero h = absurd (not-suc-le-zero h)
series-step r t (suc m) h = rw (pred m)

pub series-end : (r t : Float) (m : ℕ) → m ≤ 0 → series r m t ≡ t
unfolding series
series-end r t zero h = refl
series-end r t (suc m) h = absurd (not-suc-le-zero h)

-- ---- 2 ^ k from its bits

-- an exponent's field with no digits below the leading one
power-fields : (s : Bool) (e t x : ℕ) → s ≡ false → e ≡ suc x → t ≡ 0 → x < 2046 → of_fields binary64 s e t ≡ fin false 1 (minus (x + 52) 1074)
unfolding of_fields odd count_trailing_zeros
power-fields s e t x hs he ht h = rw (hs, he, ht, ne_eqb (suc x) 2047 (omega arith))

power-bits : (x : ℕ) → x < 2046 → of_bits binary64 (suc x * 2 ^ 52) ≡ fin false 1 (minus (x + 52) 1074)
unfolding of_bits
power-bits x h =
    let b = suc x * 2 ^ 52 in
    let lt : b < 2 ^ 63 = omega arith in
    power-fields (leb (2 ^ 63) b) (b % 2 ^ 63 / 2 ^ 52) (b % 2 ^ 52) x
    (lt-leb (2 ^ 63) b lt)
    (ap (λ (n : ℕ). n / 2 ^ 52) (mod-eq_of_lt lt) ∙ mul-div_cancel (suc x) (pow_pos 52))
    (mul-mod_left (suc x) (2 ^ 52))
    h

-- the field of the exponent k, less one
abbrev pub field : ℤ → ℕ
field (pos n) = n + 1022
field (negsuc n) = 1021 - n

pub record Raised (k : ℤ) : Type 0 where
  pub sum : k +ℤ pos 1023 ≡ pos (suc (field k))
  pub small : field k < 2046
  pub float : of_bits binary64 (suc (field k) * 2 ^ 52) ≡ power k

pub raised : (k : ℤ) → in_exp k → Raised k
unfolding power
raised (pos n) h = record {
  sum = ap pos (omega arith);
  small = omega arith;
  float = power-bits (n + 1022) (omega arith) ∙ ap (fin false 1) (rw (le-leb 1074 (n + 1022 + 52) (omega arith)) (ap pos (omega arith)));
}
raised (negsuc n) h = record {
  sum = rw (le-ltb 1023 (suc n) (omega arith)) (ap pos (omega arith));
  small = omega arith;
  float = power-bits (1021 - n) (omega arith) ∙ ap (fin false 1) (rw (lt-leb 1074 (1021 - n + 52) (omega arith)) (ap negsuc (omega arith)));
}
