-- The box: the root's cell is the span of all points, padded. Definitions only.
use Rattle.std.specs.Prelude.{List, true, false, cond, ℕ, ◌+◌, ◌*◌, set, Float}
use Rattle.std.specs.Float.{inf, binary64}
use Rattle.std.specs.Float.Ieee.{add, sub, div, lt}
use Rattle.laws.specs.Loops.{loop}
use Rattle.laws.specs.Area.{at, bits, two64}
use Rattle.elementary.specs.Limits.{unless_above}
use Rattle.tree_node.specs.declared.Node.{Node}
use Rattle.tree_node.specs.Node.{zeros3, fresh_of}
use Rattle.tree_bounds.specs.declared.Span.{Span}

-- one coordinate more: it replaces the lowest where it is below it, and the highest where it is above it
unfoldable pub lower : Float → Float → Float
lower a v = cond (lt v a) v a

unfoldable pub higher : Float → Float → Float
higher a v = cond (lt a v) v a

abbrev pub widened : Span → Float → Span
widened s v = record { low = lower s.low v; high = higher s.high v }

-- component d of the n points, from plus and minus infinity
abbrev pub span_step : List Float → ℕ → ℕ → ℕ → Span → Span
span_step y c d i s = widened s (at y (i * c + d))

unfoldable pub span_of : List Float → ℕ → ℕ → ℕ → Span
unfolding loop lower higher
span_of y n c d = loop (span_step y c d) n 0 (record { low = inf false; high = inf true })

-- 1e-12
abbrev pub pad : Float
pad = bits 0x3d719799812dea11

-- (low + high) / 2
unfoldable pub middle_of : Span → Float
middle_of s = div binary64 (add binary64 s.low s.high) two64

-- half the span, at least 1e-12, and 1e-12 more
unfoldable pub reach_of : Span → Float
unfolding unless_above
reach_of s = add binary64 (unless_above pad (div binary64 (sub binary64 s.high s.low) two64)) pad

abbrev pub middle_step : List Float → ℕ → ℕ → ℕ → List Float → List Float
middle_step y n c d z = set z d (middle_of (span_of y n c d))

abbrev pub reach_step : List Float → ℕ → ℕ → ℕ → List Float → List Float
reach_step y n c d h = set h d (reach_of (span_of y n c d))

-- an empty leaf over the padded span of n points in c components
unfoldable pub box_of : List Float → ℕ → ℕ → Node
unfolding loop span_of middle_of reach_of
box_of y n c = fresh_of (loop (middle_step y n c) c 0 zeros3) (loop (reach_step y n c) c 0 zeros3)
