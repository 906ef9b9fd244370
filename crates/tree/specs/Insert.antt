-- Insertion of a point into the tree, over a list of nodes: rule 3 of the scope paper. Definitions only.
use Rattle.std.specs.Prelude.{List, ◌∷◌, Bool, true, false, cond, ℕ, zero, suc, ◌+◌, ◌-◌, ◌*◌, ◌^◌, set, length, eqb, ltb, Float, Option, None, Some}
use Rattle.laws.specs.Domain.{deepest, most_word}
use Rattle.laws.specs.Loops.{loop, every}
use Rattle.tree_node.specs.declared.Node.{Node}
use Rattle.tree_turns.specs.declared.Out.{Out}
use Rattle.tree_node.specs.Node.{point_of, fresh_of}
use Rattle.tree_children.specs.Children.{child_index, child_centre, child_half}
use Rattle.tree_turns.specs.Turns.{child_of, turn_of}
use Rattle.tree_node.specs.Arena.{node_at, nameable}
use Rattle.tree_contents.specs.Contents.{node_ok}

-- the nodes, of which the first `used` are in use
pub record Tree : Type 0 where
  pub used : ℕ
  pub nodes : List Node

abbrev pub tree : ℕ → List Node → Tree
tree u ns = record { used = u; nodes = ns }

-- ---- one level

abbrev pub child_step : ℕ → Node → ℕ → List Float → ℕ → List Node → List Node
child_step c v o q b ns = set ns (v.first + b) (child_of c v o q b)

-- n children of the split node v, from its first child on; the old point o with coordinates q goes down first
unfoldable pub subdivided : ℕ → Node → ℕ → List Float → ℕ → List Node → List Node
unfolding loop child_of
subdivided c v o q n ns = loop (child_step c v o q) n 0 ns

-- what becomes of node i
abbrev pub turn_at : ℕ → List Float → ℕ → ℕ → ℕ → Tree → Out
turn_at c p j depth i t = turn_of c p j depth t.used (node_at t.nodes i)

-- the tree after it: its node stored, then its children made from the first free node on
abbrev pub levelled : List Float → ℕ → ℕ → Out → Tree → Tree
levelled y c i r t = tree (t.used + r.fresh) (subdivided c r.node r.old (point_of y c r.old) r.fresh (set t.nodes i r.node))

abbrev pub level_at : List Float → ℕ → List Float → ℕ → ℕ → ℕ → Tree → Tree
level_at y c p j depth i t = levelled y c i (turn_at c p j depth i t) t

-- ---- the descent of point j with coordinates p from node i on, at a depth, in at most g levels

unfoldable pub inserted : ℕ → List Float → ℕ → List Float → ℕ → ℕ → ℕ → Tree → Tree
unfolding turn_of subdivided point_of
inserted zero y c p j depth i t = t
inserted (suc g) y c p j depth i t =
    elim (turn_at c p j depth i t).last [
      | true ↦ level_at y c p j depth i t
      | false ↦ inserted g y c p j (depth + 1) (turn_at c p j depth i t).next (level_at y c p j depth i t)
    ]

-- ---- how many nodes it needs

-- a leaf with that cell holds a point q, and p comes: the splits, at most g
unfoldable pub splits_of : ℕ → ℕ → List Float → List Float → List Float → List Float → ℕ
unfolding child_index child_centre child_half
splits_of zero c z h q p = 0
splits_of (suc g) c z h q p =
    elim (eqb (child_index c z q) (child_index c z p)) [
      | true ↦ suc (splits_of g c (child_centre c z h (child_index c z p)) (child_half c h) q p)
      | false ↦ 1
    ]

abbrev pub leaf_needs : List Float → ℕ → List Float → ℕ → Node → Option ℕ → ℕ
leaf_needs y c p depth v None = 0
leaf_needs y c p depth v (Some o) = splits_of (deepest - depth) c v.centre v.half (point_of y c o) p * 2 ^ c

-- the descent that changes nothing
unfoldable pub needs_of : ℕ → List Float → ℕ → List Float → ℕ → ℕ → List Node → ℕ
unfolding splits_of point_of
needs_of zero y c p depth i ns = 0
needs_of (suc g) y c p depth i ns =
    elim (eqb (node_at ns i).first 0) [
      | true ↦ leaf_needs y c p depth (node_at ns i) (node_at ns i).leaf
      | false ↦ needs_of g y c p (depth + 1) ((node_at ns i).first + child_index c (node_at ns i).centre p) ns
    ]

-- ---- insertion, with its refusal: nothing changes where the nodes are not there, or no word can name them

pub record Insertion : Type 0 where
  pub full : Bool
  pub tree : Tree

abbrev pub insertion : Bool → Tree → Insertion
insertion b t = record { full = b; tree = t }

unfoldable pub insert_of : List Float → ℕ → ℕ → Tree → Insertion
unfolding inserted needs_of nameable
insert_of y c j t =
    cond (ltb (nameable (length t.nodes)) (t.used + needs_of (length t.nodes) y c (point_of y c j) 0 0 t.nodes))
    (insertion true t)
    (insertion false (inserted (length t.nodes) y c (point_of y c j) j 0 0 t))

-- ---- contents that are well formed: of n points, counts at most m

abbrev pub tree_ok : ℕ → ℕ → ℕ → Tree → Bool
tree_ok n m c t = every (λ i. node_ok n m c t.used i (node_at t.nodes i)) t.used

-- the shape alone, whatever points and counts the nodes have: the children of each used node lie above it among the used ones
abbrev pub shaped : ℕ → Tree → Bool
shaped c t = tree_ok (suc most_word) most_word c t

-- well formed, and every count can grow by one within a word
abbrev pub growable : ℕ → ℕ → Tree → Bool
growable n c t = tree_ok n (most_word - 1) c t

-- ---- the whole tree: n points into a root; past a refusal nothing more goes in

unfoldable pub built : List Float → ℕ → ℕ → Tree → Insertion
unfolding loop insert_of
built y c n t = loop (λ j r. elim r.full [ true ↦ r | false ↦ insert_of y c j r.tree ]) n 0 (insertion false t)

-- an empty root with that cell, in an arena with these nodes behind it, none of them in use
abbrev pub rooted : List Float → List Float → List Node → Tree
rooted z h rest = tree 1 (fresh_of z h ∷ rest)

-- nodes for every split that n points can need, the first point none: with so many no insertion is refused
abbrev pub enough_nodes : ℕ → ℕ → ℕ
enough_nodes c n = 1 + deepest * 2 ^ c * (n - 1)
