-- A row by blocks: what the private functions leave, each pass over a block of a row in its places. Definitions only.
use Rattle.std.specs.Prelude.{List, Bool, not, cond, ◌&&◌, ℕ, ◌+◌, ◌-◌, ◌*◌, ◌/◌, ◌^◌, ◌<◌, ◌≤◌, pos, neg_ℤ, nat_abs, ◌-ℤ◌, set, Float}
use Rattle.std.specs.Float.{binary64}
use Rattle.std.specs.Float.Ieee.{add, sub, mul, div, neg, lt, le, eq, of_int, to_bits}
use Rattle.laws.specs.Area.{at, num, bits, zero64, one64, two64}
use Rattle.elementary.specs.Ln.{root2, odd_series, ln_sum}
use Rattle.elementary.specs.Exp.{low708, exp_k, reduced, series, power}
use Rattle.affinity_sigma.specs.Sigma.{tiny}

-- how many values a block has
abbrev pub block_size : ℕ
block_size = 32

-- ---- the weights of a block

-- -d / ((2·sigma)·sigma)
abbrev pub exponent_of : Float → Float → Float
exponent_of sigma d = div binary64 (neg d) (mul binary64 (mul binary64 two64 sigma) sigma)

-- the exponents of the distances from j on
abbrev pub exponent_step : List Float → ℕ → Float → ℕ → List Float → List Float
exponent_step ds j sigma t xs = set xs t (exponent_of sigma (at ds (j + t)))

-- the exponents that the passes take: from -708 to 0
unfoldable pub in_reach : Float → Bool
in_reach x = not (lt x low708) && le x zero64

-- how many logarithms of 2 an exponent is below 0, to the nearest
abbrev pub halvings_of : Float → ℕ
halvings_of x = nat_abs (exp_k x)

abbrev pub halving_step : List Float → ℕ → List ℕ → List ℕ
halving_step xs t us = set us t (halvings_of (at xs t))

-- none is more than what a normal number allows
abbrev pub FewHalvings : List ℕ → Type 0
FewHalvings us = (t : ℕ) → t < block_size → num us t ≤ 1021

-- the series at what is left of x after u logarithms of 2
abbrev pub series_after : Float → ℕ → Float
series_after x u = series (reduced x (neg_ℤ (pos u))) 13 one64

abbrev pub series_step : List Float → List ℕ → ℕ → List Float → List Float
series_step xs us t ts = set ts t (series_after (at xs t) (num us t))

-- v halved u times, and nothing at a distance of exactly 0.0
abbrev pub halved_by : Float → Float → ℕ → Float
halved_by d v u = cond (eq d zero64) zero64 (mul binary64 v (power (neg_ℤ (pos u))))

abbrev pub halved_step : List Float → ℕ → List ℕ → List Float → ℕ → List Float → List Float
halved_step ds j us ts t p = set p (j + t) (halved_by (at ds (j + t)) (at ts t) (num us t))

-- ---- the entropy of a block

abbrev pub one_half : Float
one_half = bits 0x3fe0000000000000

-- a share that enters the entropy, and a half for one that does not
abbrev pub stand_in_of : Float → Float
stand_in_of v = cond (lt tiny v) v one_half

-- the field of v's exponent, and v's digits as a value from 1 to 2
abbrev pub field_of : Float → ℕ
field_of v = to_bits binary64 v / 2 ^ 52

abbrev pub unit_of : Float → Float
unit_of v = bits (1023 * 2 ^ 52 + (to_bits binary64 v - field_of v * 2 ^ 52))

-- v is m·2^k: m, halved where it is above the root of 2
abbrev pub digits_of : Float → Float
digits_of v = cond (lt root2 (unit_of v)) (div binary64 (unit_of v) two64) (unit_of v)

-- and k, as a value
abbrev pub power_of : Float → Float
power_of v = of_int binary64 (pos (cond (lt root2 (unit_of v)) (field_of v + 1) (field_of v)) -ℤ pos 1023)

abbrev pub digit_step : List Float → ℕ → ℕ → List Float → List Float
digit_step p j t ms = set ms t (digits_of (stand_in_of (at p (j + t))))

abbrev pub power_step : List Float → ℕ → ℕ → List Float → List Float
power_step p j t ks = set ks t (power_of (stand_in_of (at p (j + t))))

-- the logarithm of m·2^k, k a value
abbrev pub log_by : Float → Float → Float
log_by m k = let s = div binary64 (sub binary64 m one64) (add binary64 m one64) in ln_sum k s (odd_series (mul binary64 s s))

abbrev pub log_step : List Float → List Float → ℕ → List Float → List Float
log_step ms ks t ls = set ls t (log_by (at ms t) (at ks t))

-- what a share adds to the entropy, its logarithm given
abbrev pub term_by : Float → Float → Float
term_by v l = cond (lt tiny v) (mul binary64 (neg v) l) zero64

abbrev pub term_step : List Float → ℕ → List Float → ℕ → Float → Float
term_step p j ls t h = add binary64 h (term_by (at p (j + t)) (at ls t))
