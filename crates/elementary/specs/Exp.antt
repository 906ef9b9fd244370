-- exp, as the scope paper and request 2026-05 fix it, for every f64. Definitions only.
use Rattle.std.specs.Prelude.{ℕ, zero, suc, ◌+◌, ◌*◌, ◌/◌, ◌≤◌, Bool, true, false, cond, ℤ, pos, negsuc, ◌+ℤ◌, neg_ℤ, is_nan, Float}
use Rattle.std.specs.Float.{nan, inf, fin, binary64}
use Rattle.std.specs.Float.Ieee.{up, down, add, sub, mul, div, of_int, lt, neg}
use Rattle.laws.specs.Area.{bits, zero64, one64}

-- L, the logarithm of 2, and its two parts HI and LO
abbrev pub ln2 : Float
ln2 = bits 0x3fe62e42fefa39ef

abbrev pub ln2hi : Float
ln2hi = bits 0x3fe62e42fee00000

abbrev pub ln2lo : Float
ln2lo = bits 0x3dea39ef35793c76

-- below -745 the answer is zero, below -708 it is rounded into the subnormals, above 709 it is infinity
abbrev pub low745 : Float
low745 = neg (bits 0x4087480000000000)

abbrev pub low708 : Float
low708 = neg (bits 0x4086200000000000)

abbrev pub high709 : Float
high709 = bits 0x4086280000000000

-- the number nearest to a / b, a half going up
unfoldable pub near_up : ℕ → ℕ → ℕ
near_up a b = (2 * a + b) / (2 * b)

-- a number with a sign
unfoldable pub signed : Bool → ℕ → ℤ
signed false n = pos n
signed true n = neg_ℤ (pos n)

-- the whole number nearest to a value, halves away from zero
unfoldable pub whole_near : Float → ℤ
unfolding near_up signed
whole_near nan = pos 0
whole_near (inf s) = pos 0
whole_near (fin s m e) = signed s (near_up (m * up e) (down e))

-- what is left of x after k logarithms of 2: (x - k·HI) - k·LO
unfoldable pub reduced : Float → ℤ → Float
reduced x k = sub binary64 (sub binary64 x (mul binary64 (of_int binary64 k) ln2hi)) (mul binary64 (of_int binary64 k) ln2lo)

-- for m from n down to 1, t = 1 + (r / m)·t
unfoldable pub series : Float → ℕ → Float → Float
series r zero t = t
series r (suc m) t = series r m (add binary64 one64 (mul binary64 (div binary64 r (of_int binary64 (pos (suc m)))) t))

-- 2 ^ k, the number itself
unfoldable pub power : ℤ → Float
power k = fin false 1 k

-- k, the whole number nearest to the rounded quotient x / L
abbrev pub exp_k : Float → ℤ
exp_k x = whole_near (div binary64 x ln2)

-- t, the series at what is left of x
abbrev pub exp_t : Float → Float
exp_t x = series (reduced x (exp_k x)) 13 one64

-- from -708 to 709: t·2^k
unfoldable pub exp_in : Float → Float
unfolding whole_near series power reduced
exp_in x = mul binary64 (exp_t x) (power (exp_k x))

-- from -745 to -708: t·2^(k + 64), which is exact, times 2^-64, which rounds once
unfoldable pub exp_under : Float → Float
unfolding whole_near series power reduced
exp_under x = mul binary64 (mul binary64 (exp_t x) (power (exp_k x +ℤ pos 64))) (power (negsuc 63))

-- NaN gives NaN; below -745 zero; above 709 infinity
unfoldable pub exp_of : Float → Float
unfolding exp_in exp_under
exp_of x = cond (is_nan x) nan (cond (lt x low745) zero64 (cond (lt high709 x) (inf false) (cond (lt x low708) (exp_under x) (exp_in x))))

-- ---- the range of k, with its signs

-- from - low to high: k itself is from -1021 to 1023 where the answer is t·2^k
abbrev pub from_minus : ℕ → ℕ → ℤ → Type 0
from_minus low high (pos n) = n ≤ high
from_minus low high (negsuc n) = suc n ≤ low

-- from - low to - high: below -708, k is from -1075 to -1021 and k + 64 from -1011 to -957
abbrev pub between_minus : ℕ → ℕ → ℤ → Type 0
between_minus low high (pos n) = ⊥
between_minus low high (negsuc n) = (high ≤ suc n) × (suc n ≤ low)

-- ---- what the inner functions ask

-- k is the exponent of a normal number
abbrev pub in_exp : ℤ → Type 0
in_exp k = from_minus 1022 1023 k

-- finite, and of magnitude at most n
abbrev pub at_most : Float → ℕ → Type 0
at_most nan n = ⊥
at_most (inf s) n = ⊥
at_most (fin s m e) n = m * up e ≤ n * down e
