-- Where a point goes, and the cells of a node's children: rule 3 of the scope paper. Definitions only.
use Rattle.std.specs.Prelude.{List, cond, ℕ, ◌+◌, ◌/◌, ◌%◌, ◌^◌, set, eqb, Float}
use Rattle.std.specs.Float.{binary64}
use Rattle.std.specs.Float.Ieee.{add, sub, div, lt}
use Rattle.laws.specs.Loops.{loop}
use Rattle.laws.specs.Area.{at, two64}
use Rattle.tree_node.specs.declared.Node.{Node}
use Rattle.tree_node.specs.Node.{zeros3, fresh_of}

-- ---- the child a point goes to: bit d is set where coordinate d is above the centre; a tie goes low

unfoldable pub bit_of : Float → Float → ℕ → ℕ
unfolding lt
bit_of z x d = cond (lt z x) (2 ^ d) 0

abbrev pub bit_step : List Float → List Float → ℕ → ℕ → ℕ
bit_step z p d n = n + bit_of (at z d) (at p d) d

unfoldable pub child_index : ℕ → List Float → List Float → ℕ
unfolding loop bit_of
child_index c z p = loop (bit_step z p) c 0 0

-- ---- the cell of child b: half the width, the centre moved by it

unfoldable pub moved_of : Float → Float → ℕ → ℕ → Float
unfolding add sub div
moved_of z h b d = cond (eqb (b / 2 ^ d % 2) 1) (add binary64 z (div binary64 h two64)) (sub binary64 z (div binary64 h two64))

abbrev pub half_step : List Float → ℕ → List Float → List Float
half_step h d t = set t d (div binary64 (at h d) two64)

abbrev pub move_step : List Float → List Float → ℕ → ℕ → List Float → List Float
move_step z h b d t = set t d (moved_of (at z d) (at h d) b d)

unfoldable pub child_half : ℕ → List Float → List Float
unfolding loop div
child_half c h = loop (half_step h) c 0 zeros3

unfoldable pub child_centre : ℕ → List Float → List Float → ℕ → List Float
unfolding loop moved_of
child_centre c z h b = loop (move_step z h b) c 0 zeros3

abbrev pub cell_of : ℕ → Node → ℕ → Node
cell_of c v b = fresh_of (child_centre c v.centre v.half b) (child_half c v.half)
