-- SplitMix64's known outputs, a coordinate and small areas, computed from the definitions.
use Rattle.std.specs.Prelude.{◌≡◌, [], ◌∷◌, refl, Ok, Err}
use Rattle.std.specs.Float.Ieee.{to_bits, of_bits, of_int, sub, mul, div}
use Rattle.std.specs.Float.{binary64}
use Rattle.laws.specs.Loops.{loop}
use Rattle.laws.specs.Area.{zero64, one64}
use Rattle.scatter.specs.Scatter.{next_state, mix_of, coordinate_of, scatter_outcome, scatter_of}

zero-first : mix_of (next_state 0) ≡ 0xe220a8397b1dcdaf
unfolding mix_of
zero-first = refl

known-first : mix_of (next_state 1234567) ≡ 6457827717110365317
unfolding mix_of
known-first = refl

known-second : mix_of (next_state (next_state 1234567)) ≡ 3203168211198807973
unfolding mix_of
known-second = refl

known-third : mix_of (next_state (next_state (next_state 1234567))) ≡ 9817491932198370423
unfolding mix_of
known-third = refl

-- (0xe220a8397b1dcdaf >> 11) / 2^53 − 0.5, times 1e-4: about 3.8e-5
coordinate-zero-first : to_bits binary64 (coordinate_of 0xe220a8397b1dcdaf) ≡ 0x3f0418b5e88be6f8
unfolding coordinate_of of_bits of_int sub mul div to_bits
coordinate-zero-first = refl

-- one row of two: the first outputs in order, and the tail kept
one-row : scatter_of 1 2 1234567 (zero64 ∷ zero64 ∷ one64 ∷ []) ≡ scatter_outcome (Ok tt) (coordinate_of 6457827717110365317 ∷ coordinate_of 3203168211198807973 ∷ one64 ∷ [])
unfolding scatter_of loop mix_of
one-row = refl

-- c is tested before n, and n before the area
c-first : scatter_of 0 9 0 [] ≡ scatter_outcome (Err 1) []
unfolding scatter_of
c-first = refl

n-second : scatter_of 4097 8 0 [] ≡ scatter_outcome (Err 7) []
unfolding scatter_of
n-second = refl

area-third : scatter_of 1 2 0 (one64 ∷ []) ≡ scatter_outcome (Err 12) (one64 ∷ [])
unfolding scatter_of
area-third = refl
