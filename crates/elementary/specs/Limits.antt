-- The bounds that the scope paper puts on values, and what it writes out: absolute value, `max` with a constant, the count of neighbours. Definitions only.
use Rattle.std.specs.Prelude.{◌≡◌, ℕ, ◌+◌, ◌-◌, ◌*◌, ◌/◌, ◌%◌, ◌≤◌, min, max, Bool, true, false, cond, ◌&&◌, ◌==◌, Float}
use Rattle.std.specs.Float.{nan, inf, fin, binary64}
use Rattle.std.specs.Float.Ieee.{le, lt, neg, mul, up, down}
use Rattle.laws.specs.Area.{bits}

-- without its sign
unfoldable pub abs_of : Float → Float
abs_of nan = nan
abs_of (inf s) = inf false
abs_of (fin s m e) = fin false m e

-- `max` with a constant: the constant unless the other value is above it, so also where that is NaN
unfoldable pub unless_above : Float → Float → Float
unless_above constant x = cond (lt constant x) x constant

-- 2 ^ 20 and 2 ^ 100
abbrev pub large : Float
large = bits 0x4130000000000000

abbrev pub huge : Float
huge = bits 0x4630000000000000

-- between - b and b: so it is neither NaN nor, for a finite b, infinite
unfoldable pub up_to : Float → Float → Bool
up_to b x = le (neg b) x && le x b

-- a table or start value in the domain: finite and at most 2 ^ 20 in magnitude
abbrev pub in_domain : Float → Bool
in_domain x = up_to large x

-- what refusal 15 lets pass: no NaN, and at most 2 ^ 100 in magnitude
abbrev pub calm : Float → Bool
calm x = up_to huge x

-- ---- how many neighbours a frame has

-- the smallest whole number that is not below x: the whole part, and one more where something is left over (x not negative)
unfoldable pub ceil_of : Float → ℕ
ceil_of nan = 0
ceil_of (inf s) = 0
ceil_of (fin true m e) = 0
ceil_of (fin false m e) = m * up e / down e + cond (m * up e % down e == 0) 0 1

abbrev pub three64 : Float
three64 = bits 0x4008000000000000

-- k = min (ceil (3·perplexity) + 1, n - 1), at least 1; the product is rounded first
unfoldable pub neighbours_of : Float → ℕ → ℕ
unfolding ceil_of
neighbours_of perplexity n = max 1 (min (ceil_of (mul binary64 three64 perplexity) + 1) (n - 1))

-- what `ceil_of` asks: neither negative nor above n
abbrev pub up_to_whole : Float → ℕ → Type 0
up_to_whole nan n = ⊥
up_to_whole (inf s) n = ⊥
up_to_whole (fin s m e) n = (s ≡ false) × (m * up e ≤ n * down e)

-- ---- what every weight is

-- a finite number with the sign +: neither NaN nor infinite nor negative
abbrev pub not_negative : Float → Type 0
not_negative nan = ⊥
not_negative (inf s) = ⊥
not_negative (fin s m e) = s ≡ false
