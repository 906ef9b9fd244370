-- A double-precision position in single precision and back, by their bits, as request 2026-11 has it. Definitions only.
use Rattle.std.specs.Prelude.{Bool, ℕ, ◌*◌, Float}
use Rattle.std.specs.Float.{nan, inf, fin, binary32, binary64}
use Rattle.std.specs.Float.Ieee.{up, down, round, of_bits, to_bits}
use Rattle.std.specs.Float.Ieee.Scale.{finite}
use Rattle.std.specs.Prelude.{Option, Some, None}

-- the single-precision value nearest to a value, at a tie the even one: subnormals and signed zeros included; past the largest an infinity
unfoldable pub single_of : Float → Float
unfolding round
single_of nan = nan
single_of (inf s) = inf s
single_of (fin s m e) = round binary32 s (m * up e) (down e)

-- the bits of a finite value; any other has none
unfoldable pub told_single : Float → Option ℕ
unfolding to_bits
told_single nan = None
told_single (inf s) = None
told_single (fin s m e) = Some (to_bits binary32 (fin s m e))

-- the double with the bits b, narrowed: none where it is not finite or rounds past the largest single-precision value
unfoldable pub narrow_of : ℕ → Option ℕ
unfolding single_of told_single of_bits
narrow_of b = told_single (single_of (of_bits binary64 b))

-- the single-precision value with the bits b, as a double's bits
unfoldable pub widen_of : ℕ → ℕ
unfolding of_bits to_bits
widen_of b = to_bits binary64 (of_bits binary32 b)

-- the bits b are those of a finite single-precision value
unfoldable pub finite_single : ℕ → Bool
unfolding of_bits
finite_single b = finite (of_bits binary32 b)
