-- A node takes a point in, and what becomes of a node when a point comes to it: rule 3 of the scope paper. Definitions only.
use Rattle.std.specs.Prelude.{List, Bool, true, false, cond, ℕ, ◌+◌, ◌^◌, set, eqb, leb, pos, Float, Option, None, Some}
use Rattle.std.specs.Float.{binary64}
use Rattle.std.specs.Float.Ieee.{add, sub, mul, div, of_int}
use Rattle.laws.specs.Loops.{loop}
use Rattle.laws.specs.Area.{at, one64}
use Rattle.laws.specs.Domain.{deepest}
use Rattle.tree_node.specs.declared.Node.{Node}
use Rattle.tree_children.specs.Children.{child_index, child_centre, child_half, cell_of}
use Rattle.tree_turns.specs.declared.Out.{Out}

-- ---- a node takes a point in

-- the mean m of cs points, the last of which is x
unfoldable pub mean_of : Float → Float → Float → Float
unfolding add sub mul div
mean_of cs m x = add binary64 (mul binary64 m (div binary64 (sub binary64 cs one64) cs)) (div binary64 x cs)

abbrev pub mass_step : Float → List Float → ℕ → List Float → List Float
mass_step cs p d m = set m d (mean_of cs (at m d) (at p d))

unfoldable pub mass_of : ℕ → ℕ → List Float → List Float → List Float
unfolding loop mean_of of_int
mass_of c k p m = loop (mass_step (of_int binary64 (pos k)) p) c 0 m

unfoldable pub absorbed : ℕ → List Float → Node → Node
unfolding mass_of
absorbed c p v = record { centre = v.centre; half = v.half; mass = mass_of c (v.count + 1) p v.mass; count = v.count + 1; first = v.first; leaf = v.leaf }

-- a leaf holds point j
abbrev pub occupied : ℕ → Node → Node
occupied j v = record { centre = v.centre; half = v.half; mass = v.mass; count = v.count; first = v.first; leaf = Some j }

-- a node whose children begin at u holds no point
abbrev pub parent : ℕ → Node → Node
parent u v = record { centre = v.centre; half = v.half; mass = v.mass; count = v.count; first = u; leaf = None }

-- child b of the split node v, of which point o with coordinates q has just gone down
unfoldable pub child_of : ℕ → Node → ℕ → List Float → ℕ → Node
unfolding child_index child_centre child_half absorbed
child_of c v o q b = cond (eqb b (child_index c v.centre q)) (occupied o (absorbed c q (cell_of c v b))) (cell_of c v b)

-- ---- what becomes of node v, at a depth, when point j with coordinates p comes to it; u is the first free node.
-- The node as it is to be stored; where to go on; how many children to make, and of which old point

abbrev pub out : Node → ℕ → ℕ → ℕ → Bool → Out
out v k f o b = record { node = v; next = k; fresh = f; old = o; last = b }

abbrev pub leaf_turn : ℕ → List Float → ℕ → ℕ → ℕ → Node → Option ℕ → Out
leaf_turn c p j depth u v None = out (occupied j v) 0 0 j true
leaf_turn c p j depth u v (Some o) = cond (leb deepest depth) (out v 0 0 j true) (out (parent u v) (u + child_index c v.centre p) (2 ^ c) o false)

unfoldable pub turn_of : ℕ → List Float → ℕ → ℕ → ℕ → Node → Out
unfolding absorbed child_index
turn_of c p j depth u v =
    cond (eqb v.first 0)
    (leaf_turn c p j depth u (absorbed c p v) v.leaf)
    (out (absorbed c p v) (v.first + child_index c v.centre p) 0 j false)
