-- How far apart two finite values lie, as a whole number of the smallest double, 2^-1074, in which every value of both formats is whole. Definitions only.
use Rattle.std.specs.Prelude.{Bool, false, cond, ℕ, ◌+◌, ◌-◌, ◌*◌, ◌/◌, ◌^◌, Float}
use Rattle.std.specs.Bool.{beq}
use Rattle.std.specs.Float.{nan, inf, fin}
use Rattle.std.specs.Float.Ieee.{up, down}

-- a finite value's magnitude
unfoldable pub grains_of : Float → ℕ
grains_of nan = 0
grains_of (inf s) = 0
grains_of (fin s m e) = m * up e * 2 ^ 1074 / down e

-- whether it has the sign −
unfoldable pub sign_of : Float → Bool
sign_of nan = false
sign_of (inf s) = s
sign_of (fin s m e) = s

-- the difference of two numbers, whichever is the larger
abbrev pub differ : ℕ → ℕ → ℕ
differ a b = (a - b) + (b - a)

-- how far apart two finite values lie
unfoldable pub apart_of : Float → Float → ℕ
unfolding grains_of sign_of
apart_of x y = cond (beq (sign_of x) (sign_of y)) (differ (grains_of x) (grains_of y)) (grains_of x + grains_of y)

-- halfway between the largest single-precision value and 2^128, the next there would be: 2^128 − 2^103
abbrev pub halfway_past : ℕ
halfway_past = (2 ^ 25 - 1) * 2 ^ 1177
