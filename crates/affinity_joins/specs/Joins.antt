-- The two shares of each pair of frames together, in an area of n columns. Definitions only.
use Rattle.std.specs.Prelude.{List, ℕ, ◌+◌, ◌*◌, pos, set, Float}
use Rattle.std.specs.Float.{binary64}
use Rattle.std.specs.Float.Ieee.{of_int, add, mul, div}
use Rattle.laws.specs.Loops.{loop}
use Rattle.laws.specs.Area.{at, zero64, two64}

-- 2n
abbrev pub norm : ℕ → Float
norm n = mul binary64 two64 (of_int binary64 (pos n))

-- the two shares of a lower frame j and a higher frame i, as they stand in an area of n columns, together and divided by d
abbrev pub joint_at : List Float → ℕ → Float → ℕ → ℕ → Float
joint_at l n d i j = div binary64 (add binary64 (at l (j * n + i)) (at l (i * n + j))) d

-- both places get it
abbrev pub pair_step : ℕ → Float → ℕ → ℕ → List Float → List Float
pair_step n d i j l = set (set l (j * n + i) (joint_at l n d i j)) (i * n + j) (joint_at l n d i j)

-- frame i with each lower frame; its own place gets 0
abbrev pub frame_joined : ℕ → Float → ℕ → List Float → List Float
frame_joined n d i l = set (loop (pair_step n d i) i 0 l) (i * n + i) zero64

-- all n frames
abbrev pub symmetrized : ℕ → List Float → List Float
symmetrized n l = loop (frame_joined n (norm n)) n 0 l
