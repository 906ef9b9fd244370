-- The box unit. Definitions only.
use Rattle.std.specs.Prelude.{List, ℕ, set, Float}
use Rattle.tree_node.specs.declared.Node.{Node}
use Rattle.tree_bounds.specs.Bounds.{box_of}
use Rattle.tree.specs.Insert.{Tree, tree}

-- the box unit: node 0 becomes the root, and is the only node in use
abbrev pub boxed : List Float → ℕ → ℕ → List Node → Tree
boxed y n c ns = tree 1 (set ns 0 (box_of y n c))
