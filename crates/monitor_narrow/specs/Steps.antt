-- How the code narrows, from the bits; nothing of the request is stated here. Definitions only.
use Rattle.std.specs.Prelude.{cond, ℕ, ◌+◌, ◌-◌, ◌*◌, ◌^◌, ltb}
use Rattle.std.specs.Float.Ieee.Nearest.{closest}

-- the pattern, without its sign, for the digits m where the exponent's bits of a double are x, from 873 on: below 897 fewer digits are left
unfoldable pub magnitude_of : ℕ → ℕ → ℕ
magnitude_of x m = cond (ltb x 897) (closest m (2 ^ (926 - x))) ((x - 897) * 2 ^ 23 + closest m (2 ^ 29))
