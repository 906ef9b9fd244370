-- What the tree is worth: of the arena t that i insertions made of a box, none of them refused, whatever the nodes held before. Assumes nothing.
--     root-counts                 the root counts i
--     split-counts                a node with children counts what they count together
--     shallow-leaf-holds-one      a leaf above the depth `deepest` is empty and counts 0, or holds a point and counts 1
--     leaf-holds-some             any leaf is empty exactly where it counts 0
--     angle-zero-sums-leaves      with an angle of zero the repulsion on a point is the sum over the leaves that count a point, apart from one that holds it alone
--     leaves-once, leaves_all, leaves-only, leaves-add-up     that list has each of these leaves once and nothing else, and their counts add up to i
--     one_parent, one-depth       every used node but the root is the child of exactly one used node, and every used node has one depth
-- point-in-leaf, leaf-counts-points, leaf-holds-its-point every point lies in the cell of one leaf; a leaf counts those of the first i that lie in its cell,
-- and the one that it holds is one of them
--     tree-worth                  all of this together
use mathlib.Core.Path.{◌≡◌, refl, sym, ap, subst, ◌∙◌}
use mathlib.Core.Logic.{◌⊎◌, inl, inr}
use mathlib.Core.List.{List}
use mathlib.Core.Bool.{false}
use Prim.Native.Nat.{ℕ, ◌<◌, ◌≤◌}
use native.Mathlib.Omega.{arith}
use lib.ListN.{length}
use lib.Ieee.{Float, binary64, mul}
use Rattle.laws.specs.Domain.{deepest}
use Rattle.tree_node.specs.declared.Node.{Node}
use Rattle.std.specs.declared.option.Option.{Option}
use Rattle.std.specs.declared.option.Option.TheVariants.{None, Some}
use Rattle.tree_node.specs.Node.{point_of}
use Rattle.tree_node.specs.Arena.{node_at}
use Rattle.tree_walk.specs.Repel.{repelled, nothing}
use Rattle.tree.specs.Insert.{Tree, Insertion, insertion, built}
use Rattle.tree.specs.Box.{boxed}
use Rattle.tree_worth.specs.Worth.{child_counts, Deep, LeafCounts, EmptyLeaf, HoldsOne, HoldsSome, IsChild, times_in, counts_of, leaves_add, NoAngle, leaves_in, leaf_in, points_of, Worth}
use Rattle.tree_worth.proofs.Tallies.{Tallied}
use Rattle.tree_worth.proofs.Counts.{Accounted, built-stands}
use Rattle.tree_worth.proofs.Ways.{tally-whole, way_deep, way-there, parent-there, parent-only}
use Rattle.tree_worth.proofs.Leaves.{below-counts, below-only, below-once, below_all}
use Rattle.tree_worth.proofs.Angle.{walk-adds}
use Rattle.tree_worth.proofs.Routes.{route-ends}
use Rattle.tree_worth.proofs.Points.{Lodged, built-placed}

holds-some : (d n : ℕ) (v : Node) (l : Option ℕ) → v.leaf ≡ l → v.count ≡ n → LeafCounts d n l → EmptyLeaf v ⊎ HoldsSome v
holds-some d n v None e f h = inl (e, f ∙ h)
holds-some d n v (Some o) e f h = inr (o, e, omega (arith, f, h.0))

holds-one : (d n : ℕ) (v : Node) (l : Option ℕ) → d < deepest → v.leaf ≡ l → v.count ≡ n → LeafCounts d n l → EmptyLeaf v ⊎ HoldsOne v
holds-one d n v None s e f h = inl (e, f ∙ h)
holds-one d n v (Some o) s e f h = inr (o, e, f ∙ h.1 s)

-- ---- the theorems

module _ (y : List Float) (n c i : ℕ) (before : List Node) (nodes-some : 0 < length before) (few : i ≤ n) (t : Tree) (made : insertion false t ≡ built y c i (boxed y n c before)) where
  pub worth-stands : Accounted n c i t
  worth-stands = subst (Accounted n c i) (sym (ap (λ (r : Insertion). r.tree) made)) (built-stands y n c before nodes-some i few (sym (ap (λ (r : Insertion). r.full) made)))

  abbrev tallied : Tallied c 0 0 t
  tallied = worth-stands.settled.tallied

  pub root-counts : (node_at t.nodes 0).count ≡ i
  root-counts = worth-stands.settled.root

  pub split-counts : (k : ℕ) → k < t.used → ((node_at t.nodes k).first ≡ 0 → ⊥) → (node_at t.nodes k).count ≡ child_counts c t.nodes k
  split-counts = tally-whole c t tallied worth-stands.some

  pub shallow-leaf-holds-one : (k d : ℕ) → k < t.used → (node_at t.nodes k).first ≡ 0 → Deep c t.nodes d k → d < deepest → EmptyLeaf (node_at t.nodes k) ⊎ HoldsOne (node_at t.nodes k)
  shallow-leaf-holds-one k d l z w s = holds-one (tallied.deep k) (node_at t.nodes k).count (node_at t.nodes k) (node_at t.nodes k).leaf
      (omega (arith, (way_deep c t tallied worth-stands.some d k w).1, s)) refl refl (tallied.leaf k l z)

  pub leaf-holds-some : (k : ℕ) → k < t.used → (node_at t.nodes k).first ≡ 0 → EmptyLeaf (node_at t.nodes k) ⊎ HoldsSome (node_at t.nodes k)
  leaf-holds-some k l z = holds-some (tallied.deep k) (node_at t.nodes k).count (node_at t.nodes k) (node_at t.nodes k).leaf refl refl (tallied.leaf k l z)

  -- every used node is at a depth, and at no other
  pub one-depth : (k : ℕ) → k < t.used → (d : ℕ) × Deep c t.nodes d k × ((e : ℕ) → Deep c t.nodes e k → e ≡ d)
  one-depth k l = let w = way-there c t tallied worth-stands.some k l in
      (w.0, w.1, λ e x. sym (way_deep c t tallied worth-stands.some e k x).1 ∙ (way_deep c t tallied worth-stands.some w.0 k w.1).1)

  -- every used node but the root is the child of a used node, and of no other
  pub one_parent : (k : ℕ) → 0 < k → k < t.used → (p : ℕ) × (p < t.used) × IsChild c t.nodes p k × ((q : ℕ) → q < t.used → IsChild c t.nodes q k → q ≡ p)
  one_parent k h l = let w = parent-there c t tallied worth-stands.some k h l in (w.0, w.1, w.2, λ q lq x. parent-only c t tallied worth-stands.some k q w.0 lq w.1 x w.2)

  -- of a point q with coordinates p
  pub angle-zero-sums-leaves : (q : ℕ) (p : List Float) (angle : Float) → NoAngle angle →
      repelled t.used c q p (mul binary64 angle angle) t.nodes ≡ leaves_add c q p t.nodes (leaves_in c t) nothing
  unfolding repelled
  angle-zero-sums-leaves q p angle flat = walk-adds c q p angle flat t tallied worth-stands.some t.used 0 nothing worth-stands.some

  pub leaves-once : (k : ℕ) → times_in k (leaves_in c t) ≤ 1
  leaves-once k = below-once c t tallied worth-stands.some k t.used 0 worth-stands.some

  pub leaves_all : (k : ℕ) → k < t.used → (node_at t.nodes k).first ≡ 0 → ((node_at t.nodes k).count ≡ 0 → ⊥) → times_in k (leaves_in c t) ≡ 1
  leaves_all = below_all c t tallied worth-stands.some

  pub leaves-only : (k : ℕ) → 0 < times_in k (leaves_in c t) → (k < t.used) × ((node_at t.nodes k).first ≡ 0) × ((node_at t.nodes k).count ≡ 0 → ⊥)
  leaves-only k h = below-only c t tallied worth-stands.some k t.used 0 worth-stands.some h

  pub leaves-add-up : counts_of t.nodes (leaves_in c t) ≡ i
  leaves-add-up = below-counts c t tallied worth-stands.some t.used 0 worth-stands.some (omega arith) ∙ root-counts

  pub worth-placed : Lodged y c i t
  worth-placed = subst (Lodged y c i) (sym (ap (λ (r : Insertion). r.tree) made)) (built-placed y n c before nodes-some i few (sym (ap (λ (r : Insertion). r.full) made)))

  -- any point, be it in yet or not
  pub point-in-leaf : (j : ℕ) → (leaf_in y c t j < t.used) × ((node_at t.nodes (leaf_in y c t j)).first ≡ 0)
  point-in-leaf j = route-ends c (point_of y c j) t.used t.nodes tallied.above 0 worth-stands.some

  pub leaf-counts-points : (k : ℕ) → k < t.used → (node_at t.nodes k).first ≡ 0 → (node_at t.nodes k).count ≡ points_of y c t i k
  leaf-counts-points = worth-placed.counts

  pub leaf-holds-its-point : (k o : ℕ) → k < t.used → (node_at t.nodes k).first ≡ 0 → (node_at t.nodes k).leaf ≡ Some o → (o < i) × (leaf_in y c t o ≡ k)
  leaf-holds-its-point = worth-placed.named

  pub tree-worth : Worth y c i t
  tree-worth = record {
    root = root-counts;
    splits = split-counts;
    shallow = shallow-leaf-holds-one;
    leaf = leaf-holds-some;
    flat = angle-zero-sums-leaves;
    once = leaves-once;
    all = leaves_all;
    only = leaves-only;
    together = leaves-add-up;
    point = point-in-leaf;
    points = leaf-counts-points;
    held = leaf-holds-its-point;
    parent = one_parent;
    depth = one-depth;
  }
