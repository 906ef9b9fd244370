-- The arena: a list of cells, each of which is a node. Definitions only.
-- Reading loses nothing (`cells_told`): an equation between the nodes of two arenas is one between the arenas.
use Rattle.std.specs.Prelude.{List, map, cond, ℕ, ◌+◌, ◌-◌, min, eqb, get_or, Option, None, Some}
use Rattle.laws.specs.Domain.{most_word}
use Rattle.tree_node.specs.declared.Node.{Node}
use Rattle.tree_node.specs.declared.Cell.{Cell}
use Rattle.tree_node.specs.Node.{zeros3, fresh_of}

-- a leaf's word: 0, or the point's number and one
unfoldable pub leaf_of : ℕ → Option ℕ
leaf_of v = cond (eqb v 0) None (Some (v - 1))

abbrev pub leaf_word : Option ℕ → ℕ
leaf_word None = 0
leaf_word (Some p) = p + 1

-- the node that lies in a cell, and the cell in which a node lies
unfoldable pub node_of : Cell → Node
unfolding leaf_of
node_of x = record { centre = x.centre; half = x.half; mass = x.mass; count = x.count; first = x.first; leaf = leaf_of x.leaf }

unfoldable pub laid_of : Node → Cell
laid_of v = record { centre = v.centre; half = v.half; mass = v.mass; count = v.count; first = v.first; leaf = leaf_word v.leaf }

-- the nodes of an arena
unfoldable pub nodes_of : List Cell → List Node
unfolding node_of
nodes_of cs = map node_of cs

-- what stands past the end of the list
abbrev pub void : Cell
void = record { centre = zeros3; half = zeros3; mass = zeros3; count = 0; first = 0; leaf = 0 }

abbrev pub cell_at : List Cell → ℕ → Cell
cell_at cs i = get_or cs i void

abbrev pub blank : Node
blank = fresh_of zeros3 zeros3

abbrev pub node_at : List Node → ℕ → Node
node_at ns i = get_or ns i blank

-- a word names a node: of a longer arena the nodes past 2^32 - 1 are not used
unfoldable pub nameable : ℕ → ℕ
nameable n = min n most_word
