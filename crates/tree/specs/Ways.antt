-- A point's way down the tree, by value: the states of an insertion's loops and what they do between one node and the next. Definitions only.
use Rattle.std.specs.Prelude.{◌≡◌, List, Bool, true, false, cond, ℕ, ◌+◌, ◌*◌, ◌<◌, ◌≤◌, ◌^◌, length, eqb, ltb, leb, Float, Option, Some}
use Rattle.laws.specs.Domain.{deepest, most_word}
use Rattle.tree_node.specs.declared.Node.{Node}
use Rattle.tree_node.specs.Node.{Axes, point_of}
use Rattle.tree_node.specs.Arena.{leaf_word, node_at, nameable}
use Rattle.tree_children.specs.Children.{child_index}
use Rattle.tree_turns.specs.declared.Out.{Out}
use Rattle.tree_turns.specs.Turns.{turn_of}
use Rattle.tree.specs.declared.Probe.{Probe}
use Rattle.tree.specs.declared.Way.{Way}
use Rattle.tree.specs.declared.Split.{Split}
use Rattle.tree.specs.declared.Step.{Step}
use Rattle.tree.specs.Insert.{Tree, leaf_needs, needs_of}

-- ---- the dry descent

-- an arena of so many cells, `used` of them in use, has room for whatever a point may need
abbrev pub ample : ℕ → ℕ → ℕ → Bool
ample cells used c = leb (used + deepest * 2 ^ c) (nameable cells)

-- the nodes that point j needs, where they might not be there; else they are not counted
abbrev pub dry_needs : List Float → ℕ → ℕ → Tree → ℕ
dry_needs y c j t = cond (ample (length t.nodes) t.used c) 0 (needs_of (length t.nodes) y c (point_of y c j) 0 0 t.nodes)

-- before the root; in an ample arena it ends there
abbrev pub probing_of : List Float → ℕ → ℕ → ℕ → ℕ → Probe
probing_of y cells used j c = record { p = point_of y c j; c = c; depth = 0; node = 0; ended = ample cells used c; more = 0 }

-- the point that a leaf holds is one of those in an area of len floats
abbrev pub LeafIn : ℕ → ℕ → Option ℕ → Type 0
LeafIn len c l = (o : ℕ) → l ≡ Some o → o * c + c ≤ len

-- a leaf ends it; else it goes on at the child that the point falls into
unfoldable pub probed_of : List Float → Probe → Node → Probe
probed_of y s v =
    cond (eqb v.first 0)
    (record { p = s.p; c = s.c; depth = s.depth; node = s.node; ended = true; more = leaf_needs y s.c s.p s.depth v v.leaf })
    (record { p = s.p; c = s.c; depth = s.depth + 1; node = v.first + child_index s.c v.centre s.p; ended = false; more = 0 })

-- ---- a level

-- what becomes of node v
abbrev pub way_turn : Way → Node → Out
way_turn w v = turn_of w.c w.p w.j w.depth w.used v

-- .. and the point that goes down into a child first
unfoldable pub met_of : List Float → Way → Node → Split
met_of y w v = record { out = way_turn w v; q = point_of y w.c (way_turn w v).old; c = w.c }

pub record MetAsks (len : ℕ) (w : Way) (v : Node) : Type 0 where
  pub axes : Axes w.c
  pub few : v.count < most_word
  pub used-named : w.used ≤ most_word
  pub old-in : (way_turn w v).old * w.c + w.c ≤ len

-- what a level asks of the arena and of positions of len floats
pub record LevelAsks (w : Way) (len : ℕ) (ns : List Node) : Type 0 where
  pub node_in : w.node < length ns
  pub meets : MetAsks len w (node_at ns w.node)
  pub room : (way_turn w (node_at ns w.node)).node.first + (way_turn w (node_at ns w.node)).fresh ≤ length ns
  pub leaf-named : leaf_word (way_turn w (node_at ns w.node)).node.leaf ≤ most_word
  pub old-named : (way_turn w (node_at ns w.node)).old < most_word

-- ---- the descent

-- in an arena of so many cells, `used` of them in use, a point that needs `more`
abbrev pub entering_of : List Float → ℕ → ℕ → ℕ → ℕ → ℕ → Way
entering_of y cells used more j c = record { p = point_of y c j; c = c; j = j; depth = 0; node = 0; used = used; full = ltb (nameable cells) (used + more); ended = ltb (nameable cells) (used + more) }

abbrev pub sunk_of : Way → Step → Way
sunk_of w s = record { p = w.p; c = w.c; j = w.j; depth = w.depth + 1; node = s.next; used = s.used; full = w.full; ended = s.last }
