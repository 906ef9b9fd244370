-- ln, as the scope paper fixes it, for every f64. Definitions only.
use Rattle.std.specs.Prelude.{ℕ, zero, suc, ◌-◌, ◌*◌, true, false, cond, ℤ, pos, ◌+ℤ◌, neg_ℤ, Float}
use Rattle.std.specs.Float.{nan, inf, fin, binary64}
use Rattle.std.specs.Float.Ieee.{size, add, sub, mul, div, of_int, lt}
use Rattle.laws.specs.Loops.{loop}
use Rattle.laws.specs.Area.{bits, one64, two64}
use Rattle.elementary.specs.Exp.{ln2hi, ln2lo}

-- v = m·2^k with m in [1, 2): the digits of v with the point after the leading one ..
abbrev pub significand : ℕ → Float
significand m = fin false m (neg_ℤ (pos (size m - 1)))

-- .. and the exponent k that goes with them
abbrev pub exponent : ℕ → ℤ → ℤ
exponent m e = e +ℤ pos (size m - 1)

-- the m above which it is halved
abbrev pub root2 : Float
root2 = bits 0x3ff6a09e667f3bcd

-- turn i of ten, at d = 19 - 2·i: t = 1/d + z·t
abbrev pub odd_step : Float → ℕ → Float → Float
odd_step z i t = add binary64 (div binary64 one64 (of_int binary64 (pos (19 - 2 * i)))) (mul binary64 z t)

-- t = 1/21, then for d = 19, 17 .. 1
unfoldable pub odd_series : Float → Float
unfolding loop
odd_series z = loop (odd_step z) 10 0 (div binary64 one64 (bits 0x4035000000000000))

-- k·HI + ((2·s)·t + k·LO)
abbrev pub ln_sum : Float → Float → Float → Float
ln_sum k s t = add binary64 (mul binary64 k ln2hi) (add binary64 (mul binary64 (mul binary64 two64 s) t) (mul binary64 k ln2lo))

-- of m·2^k: s = (m - 1) / (m + 1), z = s·s
unfoldable pub ln_at : Float → ℤ → Float
unfolding odd_series
ln_at m k = let s = div binary64 (sub binary64 m one64) (add binary64 m one64) in ln_sum (of_int binary64 k) s (odd_series (mul binary64 s s))

-- of m·2^k with m in [1, 2): where m is above the root of 2, it is halved and k is one more
unfoldable pub ln_in : Float → ℤ → Float
unfolding ln_at
ln_in m k = cond (lt root2 m) (ln_at (div binary64 m two64) (k +ℤ pos 1)) (ln_at m k)

-- NaN, zero and the negatives give NaN; infinity gives itself
unfoldable pub ln_of : Float → Float
unfolding ln_in
ln_of nan = nan
ln_of (inf true) = nan
ln_of (inf false) = inf false
ln_of (fin s zero e) = nan
ln_of (fin true (suc m) e) = nan
ln_of (fin false (suc m) e) = ln_in (significand (suc m)) (exponent (suc m) e)
