-- The exact gradient by pairs of frames: the Student-t numerators, and the sums of a row's weights. Definitions only.
use Rattle.std.specs.Prelude.{List, cond, ℕ, ◌+◌, ◌*◌, set, eqb, Float}
use Rattle.std.specs.Float.{binary64}
use Rattle.std.specs.Float.Ieee.{add, sub, mul, div}
use Rattle.laws.specs.Loops.{loop}
use Rattle.laws.specs.Area.{at, bits, zero64, one64, zeros8}
use Rattle.elementary.specs.Limits.{unless_above}
use Rattle.tree_bodies.specs.Bodies.{gap_of}
use Rattle.gradient_pairs.specs.declared.Pulls.{Pulls}

-- 2^-52, below which no share of the total goes
abbrev pub share_floor : Float
share_floor = bits 0x3cb0000000000000

-- ---- the numerators

-- the coordinates of frame i on the map
abbrev pub on_map : List Float → ℕ → ℕ → ℕ → Float
on_map y c i d = at y (i * c + d)

-- 1 / (1 + d²), and 0 on the diagonal
unfoldable pub num_of : List Float → ℕ → ℕ → ℕ → Float
unfolding gap_of
num_of y c i j = cond (eqb i j) zero64 (div binary64 one64 (add binary64 one64 (gap_of c (on_map y c i) (on_map y c j))))

-- one numerator more of row i
abbrev pub num_step : List Float → ℕ → ℕ → ℕ → Float → Float
num_step y c i j s = add binary64 s (num_of y c i j)

-- ---- the weights of a gradient row

-- q = num / total, at least 2^-52; w = (affinity·exaggeration − q)·num, the product rounded first
unfoldable pub push_of : Float → Float → Float → Float → Float
unfolding unless_above
push_of p exaggeration num total = mul binary64 (sub binary64 (mul binary64 p exaggeration) (unless_above share_floor (div binary64 num total))) num

abbrev pub along_step : Float → List Float → ℕ → ℕ → List Float → List Float
along_step w y b d t = set t d (add binary64 (at t d) (mul binary64 w (at y (b + d))))

-- the sum of the w so far, and Σ w·y in each component
abbrev pub pulls : Float → List Float → Pulls
pulls s t = record { sum = s; along = t }

-- frame j's part, of weight w
unfoldable pub pull_by : Float → List Float → ℕ → ℕ → Pulls → Pulls
unfolding loop
pull_by w y c j x = pulls (add binary64 x.sum w) (loop (along_step w y (j * c)) c 0 x.along)

abbrev pub push_at : List Float → List Float → Float → Float → ℕ → ℕ → ℕ → ℕ → Float
push_at y P exaggeration total n c i j = push_of (at P (i * n + j)) exaggeration (num_of y c i j) total

-- all frames by rising j, from +0.0
unfoldable pub pulls_of : List Float → List Float → Float → Float → ℕ → ℕ → ℕ → Pulls
unfolding loop pull_by push_of
pulls_of y P exaggeration total n c i = loop (λ j x. pull_by (push_at y P exaggeration total n c i j) y c j x) n 0 (pulls zero64 zeros8)

-- ---- a row in parts, of m frames from j on

-- frame j of row i more, as the whole row has it
abbrev pub pull_step : List Float → List Float → Float → Float → ℕ → ℕ → ℕ → ℕ → Pulls → Pulls
pull_step y P exaggeration total n c i j x = pull_by (push_at y P exaggeration total n c i j) y c j x

-- place k gets the numerator of frames i and j + k
abbrev pub num_laid : List Float → ℕ → ℕ → ℕ → ℕ → List Float → List Float
num_laid y c i j k l = set l k (num_of y c i (j + k))

-- .. and another what frame j + k weighs by it
abbrev pub weight_laid : List Float → List Float → Float → Float → ℕ → ℕ → ℕ → ℕ → List Float → List Float
weight_laid nums P exaggeration total n i j k l = set l k (push_of (at P (i * n + (j + k))) exaggeration (at nums k) total)

-- .. with which it is taken
abbrev pub weighed_step : List Float → List Float → ℕ → ℕ → ℕ → Pulls → Pulls
weighed_step weights y c j k x = pull_by (at weights k) y c (j + k) x
