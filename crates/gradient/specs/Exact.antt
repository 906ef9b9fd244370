-- The exact gradient, row by row: the total of the Student-t numerators, then each frame's gradient. Definitions only.
-- The forces area holds the n·c gradients, then the total at place n·c.
use Rattle.std.specs.Prelude.{List, cond, ℕ, ◌+◌, ◌*◌, set, eqb, Float}
use Rattle.std.specs.Float.{binary64}
use Rattle.std.specs.Float.Ieee.{sub, mul}
use Rattle.laws.specs.Loops.{loop}
use Rattle.laws.specs.Area.{at, bits, zero64}
use Rattle.gradient_pairs.specs.declared.Pulls.{Pulls}
use Rattle.gradient_pairs.specs.Exact.{num_of, num_step, pulls_of}

-- 4
abbrev pub four64 : Float
four64 = bits 0x4010000000000000

-- ---- the total, one running sum over all rows

-- the unit of total row i: the first row's sets the sum to +0.0 first
unfoldable pub total_row : List Float → ℕ → ℕ → ℕ → List Float → List Float
unfolding loop num_of
total_row y n c i F = set F (n * c) (loop (num_step y c i) n 0 (cond (eqb i 0) zero64 (at F (n * c))))

-- ---- a gradient row

-- (y·s − Σ w·y)·4 into the places of frame i
abbrev pub slope_step : Pulls → List Float → ℕ → ℕ → List Float → List Float
slope_step x y a d F = set F (a + d) (mul binary64 (sub binary64 (mul binary64 (at y (a + d)) x.sum) (at x.along d)) four64)

-- the unit of gradient row i
unfoldable pub gradient_row : List Float → List Float → Float → ℕ → ℕ → ℕ → List Float → List Float
unfolding loop pulls_of
gradient_row y P exaggeration n c i F = loop (slope_step (pulls_of y P exaggeration (at F (n * c)) n c i) y (i * c)) c 0 F
