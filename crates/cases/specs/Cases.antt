-- The scope paper's cases a) to k), one table. Each field is a claim about a definition that a contract cites; the table at the end is computed by the checker.
use Rattle.std.specs.Prelude.{◌≡◌, refl, List, [], ◌∷◌, map, true, false, ℕ, replicate, Float}
use Rattle.std.specs.Float.Ieee.{of_bits, of_int, is_nan, size, add, sub, mul, div, lt, eq, neg}
use Rattle.laws.specs.Loops.{loop}
use Rattle.laws.specs.Area.{bits, zero64, one64}
use Rattle.elementary.specs.Exp.{exp_of}
use Rattle.elementary.specs.Ln.{ln_of}
use Rattle.elementary.specs.Limits.{unless_above}
use Rattle.affinity_lists.specs.Lists.{areas}
use Rattle.affinity.specs.Exact.{exact_of}
use Rattle.affinity.specs.Neighbours.{neighbours_listed}
use Rattle.tree_node.specs.declared.Node.{Node}
use Rattle.tree_node.specs.Node.{zeros3}
use Rattle.tree_children.specs.Children.{child_index}
use Rattle.tree_node.specs.Arena.{node_at, blank}
use Rattle.tree.specs.Insert.{Insertion, built}
use Rattle.tree_bounds.specs.Bounds.{box_of}
use Rattle.tree.specs.Box.{boxed}
use Rattle.gradient.specs.Forces.{forces_of}
use Rattle.gradient.specs.Element.{gradients_of, gradient_of, normaliser_of}
use Rattle.step_gains.specs.Gains.{gain_of}

-- 0.5, 12, -11 and 11, 4
abbrev half : Float
half = bits 0x3fe0000000000000

abbrev twelve : Float
twelve = bits 0x4028000000000000

abbrev minus11 : Float
minus11 = bits 0xc026000000000000

abbrev plus11 : Float
plus11 = bits 0x4026000000000000

abbrev four : Float
four = bits 0x4010000000000000

-- (0, 1) and (0, 0)
abbrev above : List Float
above = zero64 ∷ one64 ∷ zero64 ∷ []

-- the points, one after the other: (0, 0) and (1, 0); 5 and 5; 0 and 1
abbrev apart : List Float
apart = zero64 ∷ zero64 ∷ one64 ∷ zero64 ∷ []

abbrev fives : List Float
fives = bits 0x4014000000000000 ∷ bits 0x4014000000000000 ∷ []

abbrev couple : List Float
couple = zero64 ∷ one64 ∷ []

-- box and both insertions, in an arena of so many nodes
abbrev tree_of : List Float → ℕ → ℕ → Insertion
tree_of y c nodes = built y c 2 (boxed y 2 c (replicate nodes blank))

-- the forces of both points at angle 0, from an area of zeros: lists, weights, exaggeration
abbrev forced : List Float → ℕ → List ℕ → List ℕ → List Float → Float → List Float
forced y nodes xs off weights x = loop (λ i F. forces_of x zero64 1 y weights xs off (tree_of y 1 nodes).tree.used (tree_of y 1 nodes).tree.nodes i F) 2 0 (replicate 6 zero64)

-- no links; and each point linked with the other by 0.5
abbrev alone : List Float → ℕ → List Float
alone y nodes = forced y nodes [] (0 ∷ 0 ∷ 0 ∷ []) [] one64

abbrev linked : Float → List Float
linked x = forced couple 3 (1 ∷ 0 ∷ []) (0 ∷ 1 ∷ 2 ∷ []) (half ∷ half ∷ []) x

-- the counts of the nodes, root first
abbrev counts : Insertion → List ℕ
counts t = map (λ (v : Node). v.count) t.tree.nodes

pub record Table : Type 0 where
  -- a) exp 0 is 1
  pub a : exp_of zero64 ≡ one64
  -- b) ln 1 is 0
  pub b : ln_of one64 ≡ zero64
  -- c) with the centre (0, 0), the point (0, 1) belongs to child 2
  pub c : child_index 2 zeros3 above ≡ 2
  -- d) and (0, 0) to child 0
  pub d : child_index 2 zeros3 zeros3 ≡ 0
  -- e) starts (0, 0) and (1, 0): 5 nodes, the children's counts are 1, 1, 0, 0
  pub e : ((tree_of apart 2 5).tree.used ≡ 5) × (counts (tree_of apart 2 5) ≡ 2 ∷ 1 ∷ 1 ∷ 0 ∷ 0 ∷ [])
  -- f) 5 and 5 in one component: 101 nodes, the last leaf counts 2; 100 nodes are refused, 101 not
  pub f : ((tree_of fives 1 101).tree.used ≡ 101) × ((node_at (tree_of fives 1 101).tree.nodes 100).count ≡ 2) × ((tree_of fives 1 100).full ≡ true) × ((tree_of fives 1 101).full ≡ false)
  -- g) there, at angle 0, Z is 4
  pub g : normaliser_of (alone fives 101) 2 1 ≡ four
  -- h) 0 and 1 in one component, at angle 0: Z is 1
  pub h : normaliser_of (alone couple 3) 2 1 ≡ one64
  -- i) with affinity 0.5 the gradients are 0; exaggerated -11 and 11
  pub i : (gradients_of false (linked one64) 2 1 0 ≡ zero64) × (gradients_of false (linked one64) 2 1 1 ≡ zero64) ×
      (gradients_of false (linked twelve) 2 1 0 ≡ minus11) × (gradients_of false (linked twelve) 2 1 1 ≡ plus11)
  -- j) a gain of 0.012 with agreeing signs becomes 0.01
  pub j : gain_of (bits 0x3f889374bc6a7efa) one64 one64 ≡ bits 0x3f847ae147ae147b
  -- k) table 0, 1, perplexity 1: affinity 0.5 both ways, by both routes
  pub k : (exact_of couple 2 1 one64 (replicate 4 one64) ≡ zero64 ∷ half ∷ half ∷ zero64 ∷ []) ×
      ((neighbours_listed couple 2 1 one64 (areas (replicate 4 one64) (0 ∷ 0 ∷ 0 ∷ 0 ∷ []) (0 ∷ 0 ∷ 0 ∷ []) (replicate 2 one64) (0 ∷ 0 ∷ []))).weights ≡ half ∷
      half ∷ one64 ∷ one64 ∷ [])

pub table : Table
unfolding exp_of ln_of child_index built box_of forces_of normaliser_of gradient_of gain_of exact_of neighbours_listed loop unless_above of_bits of_int is_nan size add sub mul div lt eq neg
table = record {
  a = refl;
  b = refl;
  c = refl;
  d = refl;
  e = (refl, refl);
  f = (refl, refl, refl, refl);
  g = refl;
  h = refl;
  i = (refl, refl, refl, refl);
  j = refl;
  k = (refl, refl);
}
