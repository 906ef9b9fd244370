-- A node by value: the components of a tree, a point's coordinates, an empty leaf. Definitions only.
use Rattle.std.specs.Prelude.{List, [], ◌∷◌, ℕ, ◌+◌, ◌*◌, ◌<◌, ◌≤◌, set, Float, None}
use Rattle.laws.specs.Loops.{loop}
use Rattle.laws.specs.Area.{at, zero64}
use Rattle.tree_node.specs.declared.Node.{Node}

-- a tree has 1, 2 or 3 components
abbrev pub Axes : ℕ → Type 0
Axes c = (0 < c) × (c ≤ 3)

abbrev pub zeros3 : List Float
zeros3 = zero64 ∷ zero64 ∷ zero64 ∷ []

-- ---- a point's c coordinates; those from c up are +0.0

abbrev pub point_step : List Float → ℕ → ℕ → List Float → List Float
point_step y a d p = set p d (at y (a + d))

unfoldable pub point_of : List Float → ℕ → ℕ → List Float
unfolding loop
point_of y c j = loop (point_step y (j * c)) c 0 zeros3

-- an empty leaf with that cell
abbrev pub fresh_of : List Float → List Float → Node
fresh_of z h = record { centre = z; half = h; mass = zeros3; count = 0; first = 0; leaf = None }
