-- A mean by the scope paper: a sum that starts at +0.0 and runs by rising index, divided by the count. Definitions only.
use Rattle.std.specs.Prelude.{ℕ, pos, Float}
use Rattle.std.specs.Float.{binary64}
use Rattle.std.specs.Float.Ieee.{of_int, add, div}
use Rattle.laws.specs.Area.{zero64}
use Rattle.laws.specs.Loops.{loop}

abbrev pub plus_next : (ℕ → Float) → ℕ → Float → Float
plus_next v i s = add binary64 s (v i)

-- v 0 + v 1 + .. + v (n - 1)
abbrev pub sum_of : (ℕ → Float) → ℕ → Float
sum_of v n = loop (plus_next v) n 0 zero64

abbrev pub average_of : (ℕ → Float) → ℕ → Float
average_of v n = div binary64 (sum_of v n) (of_int binary64 (pos n))
