-- Scatter, as the scope paper has it: SplitMix64, the coordinate of an output, and the positions it starts from. Definitions only.
use Rattle.std.specs.Prelude.{ℕ, ◌+◌, ◌*◌, ◌/◌, ◌%◌, ◌^◌, cond, ◌||◌, List, length, pos, ◌==◌, bit_xor, nat_lt, slice_set, Float, Result, Ok, Err}
use Rattle.std.proofs.Math.Option.{Option, none, some}
use Rattle.std.specs.Float.{binary64}
use Rattle.std.specs.Float.Ieee.{of_int, sub, mul, div}
use Rattle.laws.specs.Domain.{most_components, most_frames}
use Rattle.laws.specs.Loops.{loop}
use Rattle.laws.specs.Area.{bits}

-- the state after this one: plus a constant, wrapping
abbrev pub next_state : ℕ → ℕ
next_state s = (s + 0x9e3779b97f4a7c15) % 2 ^ 64

-- z ^ z >> s
abbrev pub fold_of : ℕ → ℕ → ℕ
fold_of z s = bit_xor z (z / 2 ^ s)

-- the output for a state: two wrapping products of what is folded, and a last fold
unfoldable pub mix_of : ℕ → ℕ
mix_of z =
    let a = fold_of z 30 * 0xbf58476d1ce4e5b9 % 2 ^ 64 in
    let b = fold_of a 27 * 0x94d049bb133111eb % 2 ^ 64 in
    fold_of b 31

-- 2^53
abbrev pub two53 : Float
two53 = bits 0x4340000000000000

-- 0.5
abbrev pub half : Float
half = bits 0x3fe0000000000000

-- 1e-4, nearest
abbrev pub scale : Float
scale = bits 0x3f1a36e2eb1c432d

-- (top 53 bits / 2^53 − 0.5)·1e-4
unfoldable pub coordinate_of : ℕ → Float
coordinate_of z = mul binary64 (sub binary64 (div binary64 (of_int binary64 (pos (z / 2 ^ 11))) two53) half) scale

-- a state of the generator, and the positions
pub record Spread : Type 0 where
  pub state : ℕ
  pub positions : List Float

-- the two of them, put together
abbrev pub spread : ℕ → List Float → Spread
spread s p = record { state = s; positions = p }

-- place k gets the coordinate of the next state
abbrev pub scatter_step : ℕ → Spread → Spread
scatter_step k x = let s = next_state x.state in spread s (slice_set x.positions k (coordinate_of (mix_of s)))

-- the first m places by rising index, which is row by row, from the seed on; the tail is kept
abbrev pub scattered : ℕ → ℕ → List Float → List Float
scattered m seed p = (loop scatter_step m 0 (spread seed p)).positions

-- the number that the scope paper gives an answer; none when the positions are written
abbrev pub scatter_number : Result Unit ℕ → Option ℕ
scatter_number (Ok x) = none
scatter_number (Err r) = some r

-- the answer's number and the positions afterwards
pub record ScatterOutcome : Type 0 where
  pub number : Option ℕ
  pub positions : List Float

-- an answer with the positions it leaves
abbrev pub scatter_outcome : Result Unit ℕ → List Float → ScatterOutcome
scatter_outcome a p = record { number = scatter_number a; positions = p }

-- the refusals in the scope paper's order, which write nothing; else n rows of c coordinates
unfoldable pub scatter_of : ℕ → ℕ → ℕ → List Float → ScatterOutcome
scatter_of n c seed p =
    cond (c == 0 || nat_lt most_components c) (scatter_outcome (Err 1) p)
    (cond (n == 0 || nat_lt most_frames n) (scatter_outcome (Err 7) p)
    (cond (nat_lt (length p) (n * c)) (scatter_outcome (Err 12) p)
    (scatter_outcome (Ok tt) (scattered (n * c) seed p))))
