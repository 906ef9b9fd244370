-- What the theorems on the tree speak of: a node's depth, its children's counts, the leaves that count a point, the sum over them. Definitions only.
use Rattle.std.specs.Prelude.{◌≡◌, ◌⊎◌, List, [], ◌∷◌, Bool, true, false, cond, ◌&&◌, ℕ, zero, suc, ◌+◌, ◌^◌, ◌<◌, ◌≤◌, eqb, Float, Option, None, Some}
use Rattle.std.specs.Float.{binary64}
use Rattle.std.specs.Float.Ieee.{mul}
use Rattle.laws.specs.Area.{bits, zero64}
use Rattle.laws.specs.Domain.{deepest}
use Rattle.laws.specs.Sums.{sum, bit}
use Rattle.laws.specs.Joined.{joined}
use Rattle.tree_node.specs.declared.Node.{Node}
use Rattle.tree_node.specs.Node.{point_of}
use Rattle.tree_node.specs.Arena.{node_at}
use Rattle.tree_children.specs.Children.{child_index}
use Rattle.tree_bodies.specs.declared.Acc.{Acc}
use Rattle.tree_bodies.specs.Bodies.{body_of}
use Rattle.tree_walk.specs.Repel.{repelled, nothing}
use Rattle.tree.specs.Insert.{Tree}

-- ---- counts

-- the counts of the 2^c nodes from node f on, added up
abbrev pub block_counts : ℕ → List Node → ℕ → ℕ
block_counts c ns f = sum (λ b. (node_at ns (f + b)).count) (2 ^ c)

-- .. those of node i's children
abbrev pub child_counts : ℕ → List Node → ℕ → ℕ
child_counts c ns i = block_counts c ns (node_at ns i).first

-- ---- depth: d steps down from the root, each to a child of a node that has children, lead to node i

unfoldable pub Deep : ℕ → List Node → ℕ → ℕ → Type 0
Deep c ns zero i = i ≡ 0
Deep c ns (suc d) i = (k : ℕ) × (b : ℕ) × ((node_at ns k).first ≡ 0 → ⊥) × (b < 2 ^ c) × (i ≡ (node_at ns k).first + b) × Deep c ns d k

-- node x is one of the children of node p
abbrev pub IsChild : ℕ → List Node → ℕ → ℕ → Type 0
IsChild c ns p x = ((node_at ns p).first ≡ 0 → ⊥) × ((node_at ns p).first ≤ x) × (x < (node_at ns p).first + 2 ^ c)

-- ---- what a leaf holds: nothing, and counts none; one point, and counts it; its first point, and counts some

abbrev pub EmptyLeaf : Node → Type 0
EmptyLeaf v = (v.leaf ≡ None) × (v.count ≡ 0)

abbrev pub HoldsOne : Node → Type 0
HoldsOne v = (o : ℕ) × (v.leaf ≡ Some o) × (v.count ≡ 1)

abbrev pub HoldsSome : Node → Type 0
HoldsSome v = (o : ℕ) × (v.leaf ≡ Some o) × (0 < v.count)

-- of a leaf at depth d that counts n, all this together
abbrev pub LeafCounts : ℕ → ℕ → Option ℕ → Type 0
LeafCounts d n None = n ≡ 0
LeafCounts d n (Some o) = (0 < n) × (d < deepest → n ≡ 1)

-- ---- the leaves below node i that count a point, depth first, children rising; at most g levels

unfoldable pub leaves_of : ℕ → ℕ → List Node → ℕ → List ℕ
unfolding joined
leaves_of zero c ns i = []
leaves_of (suc g) c ns i =
    elim (eqb (node_at ns i).first 0) [
      | true ↦ cond (eqb (node_at ns i).count 0) [] (i ∷ [])
      | false ↦ joined (λ b. leaves_of g c ns ((node_at ns i).first + b)) (2 ^ c)
    ]

-- the leaf that a point with coordinates p comes to from node i: at each node that has children, on to the child whose cell it lies in; at most g levels
unfoldable pub leaf_for : ℕ → ℕ → List Float → List Node → ℕ → ℕ
unfolding child_index
leaf_for zero c p ns i = i
leaf_for (suc g) c p ns i =
    elim (eqb (node_at ns i).first 0) [
      | true ↦ i
      | false ↦ leaf_for g c p ns ((node_at ns i).first + child_index c (node_at ns i).centre p)
    ]

-- the leaf in whose cell point j lies
abbrev pub leaf_in : List Float → ℕ → Tree → ℕ → ℕ
leaf_in y c t j = leaf_for t.used c (point_of y c j) t.nodes 0

-- how many of the first i points lie in the cell of leaf k
abbrev pub points_of : List Float → ℕ → Tree → ℕ → ℕ → ℕ
points_of y c t i k = sum (λ j. bit (eqb (leaf_in y c t j) k)) i

-- how often a number stands in a list
unfoldable pub times_in : ℕ → List ℕ → ℕ
times_in k [] = 0
times_in k (x ∷ l) = cond (eqb x k) 1 0 + times_in k l

-- the counts of the nodes that a list names, added up
unfoldable pub counts_of : List Node → List ℕ → ℕ
counts_of ns [] = 0
counts_of ns (x ∷ l) = (node_at ns x).count + counts_of ns l

-- ---- the sum over leaves

-- a leaf that holds point q and no other
abbrev pub holds_alone : ℕ → ℕ → Option ℕ → Bool
holds_alone q n None = false
holds_alone q n (Some o) = eqb o q && eqb n 1

-- what a leaf adds to the repulsion on point q with coordinates p: itself as one body, unless it holds q alone
abbrev pub leaf_adds : ℕ → ℕ → List Float → Node → Acc → Acc
leaf_adds c q p v a = cond (holds_alone q v.count v.leaf) a (body_of c p v a)

-- leaf after leaf, in the order of the list
unfoldable pub leaves_add : ℕ → ℕ → List Float → List Node → List ℕ → Acc → Acc
unfolding body_of
leaves_add c q p ns [] a = a
leaves_add c q p ns (x ∷ l) a = leaves_add c q p ns l (leaf_adds c q p (node_at ns x) a)

-- +0.0 or -0.0
abbrev pub NoAngle : Float → Type 0
NoAngle a = (a ≡ zero64) ⊎ (a ≡ bits 0x8000000000000000)

-- ---- all of it

-- those of a whole tree
abbrev pub leaves_in : ℕ → Tree → List ℕ
leaves_in c t = leaves_of t.used c t.nodes 0

-- a tree in c components that the first i points of y went into
pub record Worth (y : List Float) (c i : ℕ) (t : Tree) : Type 0 where
  -- the root counts them all
  pub root : (node_at t.nodes 0).count ≡ i
  -- a node with children counts what they count
  pub splits : (k : ℕ) → k < t.used → ((node_at t.nodes k).first ≡ 0 → ⊥) → (node_at t.nodes k).count ≡ child_counts c t.nodes k
  -- a leaf above the deepest level holds one point at most
  pub shallow : (k d : ℕ) → k < t.used → (node_at t.nodes k).first ≡ 0 → Deep c t.nodes d k → d < deepest → EmptyLeaf (node_at t.nodes k) ⊎ HoldsOne (node_at t.nodes k)
  -- any leaf counts none exactly where it holds none
  pub leaf : (k : ℕ) → k < t.used → (node_at t.nodes k).first ≡ 0 → EmptyLeaf (node_at t.nodes k) ⊎ HoldsSome (node_at t.nodes k)
  -- with an angle of zero repulsion adds up the leaves that count a point
  pub flat : (q : ℕ) (p : List Float) (angle : Float) → NoAngle angle → repelled t.used c q p (mul binary64 angle angle) t.nodes ≡ leaves_add c q p t.nodes (leaves_in c t) nothing
  -- each once, none missing, nothing else; their counts together
  pub once : (k : ℕ) → times_in k (leaves_in c t) ≤ 1
  pub all : (k : ℕ) → k < t.used → (node_at t.nodes k).first ≡ 0 → ((node_at t.nodes k).count ≡ 0 → ⊥) → times_in k (leaves_in c t) ≡ 1
  pub only : (k : ℕ) → 0 < times_in k (leaves_in c t) → (k < t.used) × ((node_at t.nodes k).first ≡ 0) × ((node_at t.nodes k).count ≡ 0 → ⊥)
  pub together : counts_of t.nodes (leaves_in c t) ≡ i
  -- every point lies in the cell of a used leaf; a leaf counts those of the first i that lie in its cell, and the one that it holds is one of them
  pub point : (j : ℕ) → (leaf_in y c t j < t.used) × ((node_at t.nodes (leaf_in y c t j)).first ≡ 0)
  pub points : (k : ℕ) → k < t.used → (node_at t.nodes k).first ≡ 0 → (node_at t.nodes k).count ≡ points_of y c t i k
  pub held : (k o : ℕ) → k < t.used → (node_at t.nodes k).first ≡ 0 → (node_at t.nodes k).leaf ≡ Some o → (o < i) × (leaf_in y c t o ≡ k)
  -- every used node but the root has one parent, and every used node one depth
  pub parent : (k : ℕ) → 0 < k → k < t.used → (p : ℕ) × (p < t.used) × IsChild c t.nodes p k × ((q : ℕ) → q < t.used → IsChild c t.nodes q k → q ≡ p)
  pub depth : (k : ℕ) → k < t.used → (d : ℕ) × Deep c t.nodes d k × ((e : ℕ) → Deep c t.nodes e k → e ≡ d)
