-- The whole insertion, and all of them from the box on: what they keep of counts, depths and parents. Assumes nothing.
use mathlib.Core.Path.{◌≡◌, refl, sym, ap, subst, ◌∙◌}
use mathlib.Core.List.{List, [], ◌∷◌}
use mathlib.Core.Bool.{true, false, true≢false}
use Prim.Native.Nat.{ℕ, zero, suc, ◌+◌, ◌-◌, ◌^◌, ◌<◌, ◌≤◌}
use native.Mathlib.Omega.{arith}
use native.Mathlib.Numerals.{add-one}
use native.Mathlib.Decide.{ℕ_discrete}
use native.Mathlib.Nat.{not-suc-le-zero}
use lib.ListN.{length, set}
use lib.Seq.{get_or-set_same}
use lib.Ieee.{Float}
use Rattle.laws.specs.Domain.{deepest}
use Rattle.laws.specs.Loops.{loop, every}
use Rattle.laws.proofs.Bools.{by_bool}
use Rattle.tree_node.specs.declared.Node.{Node}
use Rattle.std.specs.declared.option.Option.{Option}
use Rattle.std.specs.declared.option.Option.TheVariants.{None, Some}
use Rattle.tree_node.specs.Node.{point_of}
use Rattle.tree_node.specs.Arena.{node_at, blank, nameable}
use Rattle.tree_node.proofs.Told.{nameable-most}
use Rattle.tree_children.specs.Children.{child_index}
use Rattle.tree_children.proofs.Below.{child-below}
use Rattle.tree_bounds.specs.Bounds.{box_of}
use Rattle.tree_turns.specs.declared.Out.{Out}
use Rattle.tree_turns.specs.Turns.{absorbed, occupied, parent, out}
use Rattle.tree_contents.specs.Contents.{node_ok}
use Rattle.tree.specs.Insert.{Tree, tree, turn_at, levelled, level_at, inserted, insert_of, tree_ok, built}
use Rattle.tree.specs.Box.{boxed}
use Rattle.tree.proofs.Grow.{filled-out}
use Rattle.tree.proofs.Inserting.{turn-cases, inserted-last, inserted-next, level-plain, Ok, ok-next, ok-start}
use Rattle.tree.proofs.Whole.{needed, taken, taken-fits, taken-ends, built-next, built-full}
use Rattle.tree_worth.specs.Worth.{LeafCounts}
use Rattle.tree_worth.proofs.Tallies.{stored_other, Tallied, inner-tallied, last-tallied, split-tallied}

-- ---- one descent: the point has come to node i at depth d, and the root will count r

pub record Comes (c d i r : ℕ) (t : Tree) : Type 0 where
  pub tallied : Tallied c d i t
  pub early : i ≡ 0 → (node_at t.nodes 0).count + 1 ≡ r
  pub late : (i ≡ 0 → ⊥) → (node_at t.nodes 0).count ≡ r

-- it is in
pub record Settled (c r : ℕ) (t : Tree) : Type 0 where
  pub tallied : Tallied c 0 0 t
  pub root : (node_at t.nodes 0).count ≡ r

root-on : (i r : ℕ) (w : Node) (ns : List Node) → i < length ns → w.count ≡ (node_at ns i).count + 1 → (i ≡ 0 → (node_at ns 0).count + 1 ≡ r) → ((i ≡ 0 → ⊥) →
    (node_at ns 0).count ≡ r) → (node_at (set ns i w) 0).count ≡ r
root-on i r w ns l e a b =
    elim (ℕ_discrete i 0) [
      | yes z ↦
          let s : node_at (set ns i w) i ≡ w = get_or-set_same ns i w blank l in
          let q : (node_at (set ns i w) 0).count ≡ w.count = ap (λ (x : ℕ). (node_at (set ns i w) x).count) (sym z) ∙ ap (λ (y : Node). y.count) s in
          let f : (node_at ns i).count ≡ (node_at ns 0).count = ap (λ (x : ℕ). (node_at ns x).count) z in
          omega (arith, q, e, f, a z)
      | no z ↦ ap (λ (y : Node). y.count) (stored_other ns i w 0 (λ x. z (sym x))) ∙ b z
    ]

-- an occupied leaf takes one more
deep-says : (d n : ℕ) (l : Option ℕ) (o : ℕ) → l ≡ Some o → deepest ≤ d → LeafCounts d (n + 1) l
deep-says d n l o e h = rw e (omega arith, λ x. absurd (apart x h))
  where
    apart : d < deepest → deepest ≤ d → ⊥
    apart x h = omega (arith, x, h)

empty-says : (d n : ℕ) (l : Option ℕ) (j : ℕ) → l ≡ None → LeafCounts d n l → LeafCounts d (n + 1) (Some j)
empty-says d n l j e h = let z : n ≡ 0 = rw e at h in rw z (omega arith, λ _. refl)

pub one-held : (d n : ℕ) (l : Option ℕ) (o : ℕ) → l ≡ Some o → d < deepest → LeafCounts d n l → n ≡ 1
one-held d n l o e lt h = let k : (0 < n) × (d < deepest → n ≡ 1) = rw e at h in k.1 lt

module _ (n c m cap N r : ℕ) (y p : List Float) (j : ℕ) (hj : j < n) (hm : 1 ≤ m) (fit : N ≤ cap) where
  module _ (d i : ℕ) (t : Tree) (ok : Ok n c m cap N y p d i t) (k : Comes c d i r t) where
    abbrev v : Node
    v = node_at t.nodes i

    inside : i < length t.nodes
    inside = omega (arith, ok.node, ok.room, ok.nodes)

    whole : t.used ≤ length t.nodes
    whole = omega (arith, ok.room, ok.nodes)

    says : v.first ≡ 0 → LeafCounts d v.count v.leaf
    says z = subst (λ (x : ℕ). LeafCounts x v.count v.leaf) k.tallied.depth (k.tallied.leaf i ok.node z)

    abbrev Goal : Out → Type 0
    Goal x = (x.last ≡ false → Ok n c m cap N y p (d + 1) x.next (levelled y c i x t)) → (x.last ≡ false →
        Comes c (d + 1) x.next r (levelled y c i x t)) × (x.last ≡ true → Settled c r (levelled y c i x t))

    inner : (v.first ≡ 0 → ⊥) → Comes c (d + 1) (v.first + child_index c v.centre p) r (tree t.used (set t.nodes i (absorbed c p v)))
    unfolding absorbed
    inner z =
        let b = child_index c v.centre p in
        let lb = child-below c v.centre p in
        record {
          tallied = inner-tallied c d i t.used t.nodes k.tallied ok.node whole (absorbed c p v) refl refl z b lb;
          early = λ e. absurd (z (omega (arith, e)));
          late = λ _. root-on i r (absorbed c p v) t.nodes inside refl k.early k.late;
        }

    ends : (w : Node) → w.first ≡ v.first → w.count ≡ v.count + 1 → v.first ≡ 0 → LeafCounts d w.count w.leaf → Settled c r (tree t.used (set t.nodes i w))
    ends w ef ec z s = record { tallied = last-tallied c d i t.used t.nodes k.tallied ok.node whole w ef ec z s; root = root-on i r w t.nodes inside ec k.early k.late }

    split : (o : ℕ) → v.first ≡ 0 → v.leaf ≡ Some o → d < deepest → t.used + 2 ^ c ≤ length t.nodes
        → Comes c (d + 1) (t.used + child_index c v.centre p) r (levelled y c i (out (parent t.used (absorbed c p v)) (t.used + child_index c v.centre p) (2 ^ c) o false) t)
    unfolding absorbed
    split o z e l space =
        let b = child_index c v.centre p in
        let lb = child-below c v.centre p in
        let one : v.count ≡ 1 = one-held d v.count v.leaf o e l (says z) in
        let g = split-tallied c d i t.used t.nodes k.tallied ok.node whole p o (point_of y c o) z one space b lb in
        let a = parent t.used (absorbed c p v) in
        record {
          tallied = g;
          early = λ q. absurd (apart q);
          late = λ _. ap (λ (x : Node). x.count) (filled-out c a o (point_of y c o) (2 ^ c) (set t.nodes i a) 0 (λ s u. apart₀ s)) ∙ root-on i r a t.nodes inside refl k.early k.late;
        }
      where
        apart₀ : t.used ≤ 0 → ⊥
        apart₀ s = omega (arith, s, ok.node)

        apart : t.used + child_index c v.centre p ≡ 0 → ⊥
        apart q = omega (arith, q, ok.node)

    pub comes : Goal (turn_at c p j d i t)
    unfolding absorbed
    comes = turn-cases c p j d t.used v Goal
        (λ z _. (
          (λ _. subst (Comes c (d + 1) (v.first + child_index c v.centre p) r) (sym (level-plain y c i (absorbed c p v) (v.first + child_index c v.centre p) j false t)) (inner z)),
          λ e. absurd (true≢false (sym e)),
        ))
        (λ z e _. (
          (λ x. absurd (true≢false x)),
          λ _. subst (Settled c r) (sym (level-plain y c i (occupied j (absorbed c p v)) 0 j true t)) (ends (occupied j (absorbed c p v)) refl refl z (empty-says d v.count v.leaf j e (says z))),
        ))
        (λ o z e l _. (
          (λ x. absurd (true≢false x)),
          λ _. subst (Settled c r) (sym (level-plain y c i (absorbed c p v) 0 j true t)) (ends (absorbed c p v) refl refl z (deep-says d v.count v.leaf o e l)),
        ))
        (λ o z e l next. (
          (λ x. split o z e l (omega (arith, (next x).room, ok.nodes))),
          λ x. absurd (true≢false (sym x)),
        ))

  -- the whole descent
  descends : (g d i : ℕ) (t : Tree) → g ≡ cap - d → Ok n c m cap N y p d i t → Comes c d i r t → Settled c r (inserted g y c p j d i t)
  descends zero d i t e ok k = absurd (none_left e ok.deep ok.node ok.room)
    where
      none_left : {d i u : ℕ} → 0 ≡ cap - d → d ≤ i → i < u → u ≤ cap → ⊥
      none_left e a b c = omega (arith, e, a, b, c)
  descends (suc g) d i t e ok k = by_bool (Settled c r (inserted (suc g) y c p j d i t)) (turn_at c p j d i t).last
      (λ x. rw (inserted-last g y c p j d i t (turn_at c p j d i t) refl x) ((comes d i t ok k (ok-next n c m cap N y p j hj hm fit d i t ok)).1 x))
      (λ x. rw (inserted-next g y c p j d i t (turn_at c p j d i t) refl x)
      (descends g (d + 1) (turn_at c p j d i t).next (level_at y c p j d i t) (omega (arith, e)) (ok-next n c m cap N y p j hj hm fit d i t ok x)
      ((comes d i t ok k (ok-next n c m cap N y p j hj hm fit d i t ok)).0 x)))

-- ---- one point more

insert-settles : (y : List Float) (n c m j r : ℕ) (t : Tree) → j < n → 1 ≤ m → tree_ok n m c t ≡ true → 0 < t.used → t.used ≤ length t.nodes →
    t.used + needed y c j t ≤ nameable (length t.nodes) → Settled c r t → Settled c (r + 1) (insert_of y c j t).tree
insert-settles y n c m j r t hj hm ok some inside fit k =
    rw (taken y c j t fit)
    (descends n c m (length t.nodes) (t.used + needed y c j t) (r + 1) y (point_of y c j) j hj hm (omega (arith, fit, nameable-most (length t.nodes)))
    (length t.nodes) 0 0 t (less (length t.nodes)) (ok-start n c m y (point_of y c j) t ok some inside)
    (record { tallied = k.tallied; early = λ _. ap (λ (x : ℕ). x + 1) k.root; late = λ z. absurd (z refl) }))
  where
    less : (g : ℕ) → g ≡ g - 0
    less g = omega arith

-- ---- all of them, from the box on

-- none was refused: what the box has, and one more keeps, holds after i of them
pub built-keeps : (y : List Float) (n c : ℕ) (t : Tree) (P : ℕ → Tree → Type 0) → P 0 t → ((i : ℕ) → i < n → (built y c i t).full ≡ false →
    (insert_of y c i (built y c i t).tree).full ≡ false → P i (built y c i t).tree → P (i + 1) (insert_of y c i (built y c i t).tree).tree) →
    (i : ℕ) → i ≤ n → (built y c i t).full ≡ false → P i (built y c i t).tree
unfolding built loop
built-keeps y n c t P start next zero l e = start
built-keeps y n c t P start next (suc i) l e = by_bool (P (suc i) (built y c (suc i) t).tree) (built y c i t).full
    (λ f. absurd (true≢false (sym (built-full y c t i f) ∙ e)))
    (λ f. more f (built-keeps y n c t P start next i (omega arith) f))
  where
    more : (built y c i t).full ≡ false → P i (built y c i t).tree → P (suc i) (built y c (suc i) t).tree
    more f s =
        let q : (insert_of y c i (built y c i t).tree).full ≡ false = rw (built-next y c t i f) at e in
        rw (built-next y c t i f) (rw (sym (add-one i)) (next i l f q s))

pub record Accounted (n c i : ℕ) (t : Tree) : Type 0 where
  pub some : 0 < t.used
  pub within : t.used ≤ length t.nodes
  pub tree : tree_ok n (i + 1) c t ≡ true
  pub settled : Settled c i t

module _ (y : List Float) (n c : ℕ) where
  box-tree : (v : Node) (rest : List Node) → tree_ok n 1 c (boxed y n c (v ∷ rest)) ≡ true
  unfolding every node_ok box_of
  box-tree v rest = refl

  box-first : (v : Node) (rest : List Node) (k : ℕ) → k < 1 → (node_at (boxed y n c (v ∷ rest)).nodes k).first ≡ 0
  unfolding box_of
  box-first v rest zero l = refl
  box-first v rest (suc k) l = absurd (not-suc-le-zero (less k l))
    where
      less : (k : ℕ) → suc k < 1 → k < 0
      less k l = omega (arith, l)

  box-leaf : (v : Node) (rest : List Node) (d k : ℕ) → k < 1 → LeafCounts d (node_at (boxed y n c (v ∷ rest)).nodes k).count (node_at (boxed y n c (v ∷ rest)).nodes k).leaf
  unfolding box_of
  box-leaf v rest d zero l = refl
  box-leaf v rest d (suc k) l = absurd (not-suc-le-zero (less k l))
    where
      less : (k : ℕ) → suc k < 1 → k < 0
      less k l = omega (arith, l)

  box-count : (v : Node) (rest : List Node) → (node_at (boxed y n c (v ∷ rest)).nodes 0).count ≡ 0
  unfolding box_of
  box-count v rest = refl

  box-stands : (before : List Node) → 0 < length before → Accounted n c 0 (boxed y n c before)
  box-stands [] h = absurd (not-suc-le-zero h)
  box-stands (v ∷ rest) h = record {
    some = omega arith;
    within = omega arith;
    tree = box-tree v rest;
    settled = record {
      tallied = record {
        up = λ _. 0;
        deep = λ _. 0;
        at-root = refl;
        depth = refl;
        above = λ k l z. absurd (z (box-first v rest k l));
        of-child = λ k l z. absurd (z (box-first v rest k l));
        has-parent = λ k a b. absurd (apart k a b);
        tally = λ k l z. absurd (z (box-first v rest k l));
        leaf = λ k l z. box-leaf v rest 0 k l;
      };
      root = box-count v rest;
    };
  }
    where
      apart : (k : ℕ) → 0 < k → k < 1 → ⊥
      apart k a b = omega (arith, a, b)

  module _ (before : List Node) (h : 0 < length before) where
    abbrev boxed_tree : Tree
    boxed_tree = boxed y n c before

    -- so all of this holds after i of them
    pub built-stands : (i : ℕ) → i ≤ n → (built y c i boxed_tree).full ≡ false → Accounted n c i (built y c i boxed_tree).tree
    built-stands = built-keeps y n c boxed_tree (Accounted n c) (box-stands before h) (λ i l _ q s.
        let t = (built y c i boxed_tree).tree in
        let fit = taken-fits y c i t q in
        let g = taken-ends y c i t n (i + 1) l (omega arith) s.tree s.some s.within fit in
        record {
          some = omega (arith, g.used, s.some);
          within = omega (arith, g.used, g.nodes, fit, nameable-most (length t.nodes));
          tree = g.tree;
          settled = insert-settles y n c (i + 1) i i t l (omega arith) s.tree s.some s.within fit s.settled;
        })
