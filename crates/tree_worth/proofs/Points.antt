-- Each leaf counts the points that lie in its cell, and holds one of them: what a level of an insertion, an insertion and all of them keep of it. Assumes nothing.
use mathlib.Core.Path.{◌≡◌, refl, sym, ap, subst, ◌∙◌}
use mathlib.Core.List.{List, [], ◌∷◌}
use mathlib.Core.Bool.{true, false, true≢false}
use Prim.Native.Nat.{ℕ, zero, suc, ◌+◌, ◌-◌, ◌^◌, ◌<◌, ◌≤◌}
use native.Mathlib.Omega.{arith}
use native.Mathlib.Decide.{ℕ_discrete, dec_lt}
use native.Mathlib.Nat.{not-suc-le-zero}
use lib.Dec.{eqb}
use lib.ListN.{length, set}
use lib.Seq.{get_or-set_same}
use lib.Ieee.{Float}
use borrow.Author.Tests.{eq-eqb, ne_eqb}
use Rattle.laws.specs.Domain.{deepest}
use Rattle.laws.specs.Sums.{sum, bit}
use Rattle.laws.proofs.Bools.{by_bool}
use Rattle.laws.proofs.Sums.{sum_same, sum-next, sum-none}
use Rattle.tree_node.specs.declared.Node.{Node}
use Rattle.std.specs.declared.option.Option.TheVariants.{None, Some}
use Rattle.tree_node.specs.Node.{point_of}
use Rattle.tree_node.specs.Arena.{leaf_word, node_at, blank, nameable}
use Rattle.tree_node.proofs.Told.{nameable-most}
use Rattle.tree_children.specs.Children.{child_index}
use Rattle.tree_children.proofs.Below.{child-below}
use Rattle.tree_bounds.specs.Bounds.{box_of}
use Rattle.tree_turns.specs.declared.Out.{Out}
use Rattle.tree_turns.specs.Turns.{absorbed, occupied, parent, out, child_of}
use Rattle.tree.specs.Insert.{Tree, tree, subdivided, turn_at, levelled, level_at, inserted, insert_of, tree_ok, built}
use Rattle.tree.specs.Box.{boxed}
use Rattle.tree.proofs.Inserting.{turn-cases, inserted-last, inserted-next, level-plain, Ok, ok-next, ok-start}
use Rattle.tree.proofs.Whole.{needed, taken, taken-fits}
use Rattle.tree_worth.specs.Worth.{LeafCounts, leaf_for, leaf_in, points_of}
use Rattle.tree_worth.proofs.Sums.{sum-at, sum-two}
use Rattle.tree_worth.proofs.Tallies.{stored_other, stored_same, Tallied, split-tallied, new-here, new-old, new-child, child-count, child-empty, first-i, first-new}
use Rattle.tree_worth.proofs.Counts.{Comes, comes, one-held, Settled, built-keeps, built-stands}
use Rattle.tree_worth.proofs.Routes.{route-same, route-leaf, route-inner, route-ends, split-route}

-- of the first j points
pub record Lodged (y : List Float) (c j : ℕ) (t : Tree) : Type 0 where
  pub counts : (k : ℕ) → k < t.used → (node_at t.nodes k).first ≡ 0 → (node_at t.nodes k).count ≡ points_of y c t j k
  pub named : (k o : ℕ) → k < t.used → (node_at t.nodes k).first ≡ 0 → (node_at t.nodes k).leaf ≡ Some o → (o < j) × (leaf_in y c t o ≡ k)

bit-yes : (x k : ℕ) → x ≡ k → bit (eqb x k) ≡ 1
unfolding bit
bit-yes x k e = rw (eq-eqb x k e)

bit-no : (x k : ℕ) → (x ≡ k → ⊥) → bit (eqb x k) ≡ 0
unfolding bit
bit-no x k n = rw (ne_eqb x k n)

-- ---- a level that only stores its node

module _ (y : List Float) (c j i u : ℕ) (ns : List Node) (h : Lodged y c j (tree u ns)) (li : i < u) (room : u ≤ length ns) (w : Node)
    (ef : w.first ≡ (node_at ns i).first) (ez : w.centre ≡ (node_at ns i).centre) where
  abbrev ms : List Node
  ms = set ns i w

  here : node_at ms i ≡ w
  here = get_or-set_same ns i w blank (omega (arith, li, room))

  first-same : (x : ℕ) → (node_at ms x).first ≡ (node_at ns x).first
  first-same = stored_same ns i w (λ v. v.first) (omega (arith, li, room)) ef

  centre-same : (x : ℕ) → (node_at ms x).centre ≡ (node_at ns x).centre
  centre-same = stored_same ns i w (λ v. v.centre) (omega (arith, li, room)) ez

  pub routes-kept : (p : List Float) (x : ℕ) → leaf_for u c p ms x ≡ leaf_for u c p ns x
  routes-kept p x = route-same c p ns ms first-same centre-same u x

  points_kept : (m k : ℕ) → points_of y c (tree u ms) m k ≡ points_of y c (tree u ns) m k
  points_kept m k = sum_same (λ x. bit (eqb (leaf_in y c (tree u ms) x) k)) (λ x. bit (eqb (leaf_in y c (tree u ns) x) k)) m (λ x _. ap (λ (z : ℕ). bit (eqb z k)) (routes-kept (point_of y c x) 0))

  pub inner-placed : ((node_at ns i).first ≡ 0 → ⊥) → Lodged y c j (tree u ms)
  inner-placed z = record {
    counts = λ k l e. (let n = not-i k e in ap (λ (v : Node). v.count) (stored_other ns i w k n) ∙ h.counts k l (sym (first-same k) ∙ e) ∙ sym (points_kept j k));
    named = λ k o l e q.
        let n = not-i k e in
        let r = h.named k o l (sym (first-same k) ∙ e) (sym (ap (λ (v : Node). v.leaf) (stored_other ns i w k n)) ∙ q) in
        (r.0, routes-kept (point_of y c o) 0 ∙ r.1);
  }
    where
      not-i : (k : ℕ) → (node_at ms k).first ≡ 0 → k ≡ i → ⊥
      not-i k e x = z (ap (λ (y : ℕ). (node_at ns y).first) (sym x) ∙ (sym (first-same k) ∙ e))

  pub last-placed : w.count ≡ (node_at ns i).count + 1 → (node_at ns i).first ≡ 0 → leaf_in y c (tree u ns) j ≡ i → ((o : ℕ) → w.leaf ≡ Some o → (o < j + 1) ×
      (leaf_in y c (tree u ns) o ≡ i)) → Lodged y c (j + 1) (tree u ms)
  last-placed ec z at wn = record {
    counts = λ k l e.
        let s : points_of y c (tree u ms) (j + 1) k ≡ points_of y c (tree u ns) j k + bit (eqb (leaf_in y c (tree u ns) j) k) = points_kept (j + 1) k ∙
        sum-next (λ x. bit (eqb (leaf_in y c (tree u ns) x) k)) j in
        elim (ℕ_discrete k i) [
          | yes x ↦
              let a : (node_at ms k).count ≡ (node_at ns i).count + 1 = ap (λ (y : ℕ). (node_at ms y).count) x ∙ ap (λ (v : Node). v.count) here ∙ ec in
              let b : (node_at ns i).count ≡ points_of y c (tree u ns) j k = h.counts i li z ∙ ap (points_of y c (tree u ns) j) (sym x) in
              omega (arith, s, a, b, bit-yes (leaf_in y c (tree u ns) j) k (at ∙ sym x))
          | no x ↦
              let a : (node_at ms k).count ≡ (node_at ns k).count = ap (λ (v : Node). v.count) (stored_other ns i w k x) in
              omega (arith, s, a, h.counts k l (sym (first-same k) ∙ e), bit-no (leaf_in y c (tree u ns) j) k (λ q. x (sym q ∙ at)))
        ];
    named = λ k o l e q. elim (ℕ_discrete k i) [
      | yes x ↦ (let r = wn o (sym (ap (λ (v : Node). v.leaf) here) ∙ (ap (λ (y : ℕ). (node_at ms y).leaf) (sym x) ∙ q)) in (r.0, routes-kept (point_of y c o) 0 ∙ r.1 ∙ sym x))
      | no x ↦ (let r = h.named k o l (sym (first-same k) ∙ e) (sym (ap (λ (v : Node). v.leaf) (stored_other ns i w k x)) ∙ q) in (omega (arith, r.0), routes-kept (point_of y c o) 0 ∙ r.1))
    ];
  }

-- ---- a level that splits its node

word-apart : (o : ℕ) → None ≡ Some o → ⊥
word-apart o e = let z : 0 ≡ o + 1 = ap leaf_word e in omega (arith, z)

word_same : (o o' : ℕ) → Some o ≡ Some o' → o' ≡ o
word_same o o' e = let z : o + 1 ≡ o' + 1 = ap leaf_word e in omega (arith, z)

child-named : (c : ℕ) (v : Node) (o : ℕ) (q : List Float) (b o' : ℕ) → (child_of c v o q b).leaf ≡ Some o' → (b ≡ child_index c v.centre q) × (o' ≡ o)
unfolding child_of
child-named c v o q b o' = elim (ℕ_discrete b (child_index c v.centre q)) [
  | yes x ↦ rw (eq-eqb b (child_index c v.centre q) x) (λ e. (x, word_same o o' e))
  | no x ↦ rw (ne_eqb b (child_index c v.centre q) x) (λ e. absurd (word-apart o' e))
]

module _ (y : List Float) (c j d i u : ℕ) (ns : List Node) (h : Lodged y c j (tree u ns)) (k : Tallied c d i (tree u ns)) (li : i < u) (room : u ≤ length ns)
    (p : List Float) (o : ℕ) (z : (node_at ns i).first ≡ 0) (one : (node_at ns i).count ≡ 1) (space : u + 2 ^ c ≤ length ns) (occ : (node_at ns i).leaf ≡ Some o) where
  abbrev q : List Float
  q = point_of y c o

  abbrev a : Node
  a = parent u (absorbed c p (node_at ns i))

  abbrev new : List Node
  new = subdivided c a o q (2 ^ c) (set ns i a)

  abbrev corner : List Float → ℕ
  corner x = child_index c (node_at ns i).centre x

  abbrev old-is : (x : ℕ) → x < u → (x ≡ i → ⊥) → node_at new x ≡ node_at ns x
  old-is = new-old c d i u ns k li room p o q z one space

  abbrev child-is : (b : ℕ) → b < 2 ^ c → node_at new (u + b) ≡ child_of c a o q b
  child-is = new-child c d i u ns k li room p o q z one space

  first-at : (node_at new i).first ≡ u
  first-at = first-i c d i u ns k li room p o q z one space

  centre-at : (node_at new i).centre ≡ (node_at ns i).centre
  unfolding absorbed
  centre-at = ap (λ (v : Node). v.centre) (new-here c d i u ns k li room p o q z one space)

  abbrev t : Tree
  t = tree u ns

  abbrev t' : Tree
  t' = tree (u + 2 ^ c) new

  abbrev then' : Tallied c (d + 1) (u + corner p) t'
  then' = split-tallied c d i u ns k li room p o q z one space (corner p) (child-below c (node_at ns i).centre p)

  routes : (x : List Float) → (leaf_for u c x ns 0 ≡ i → leaf_for (u + 2 ^ c) c x new 0 ≡ u + corner x) × ((leaf_for u c x ns 0 ≡ i → ⊥) → leaf_for (u + 2 ^ c) c x new 0 ≡ leaf_for u c x ns 0)
  routes x = split-route c x u i ns new k.above then'.above li z first-at centre-at old-is (first-new c d i u ns k li room p o q z one space) u 0 (omega (arith, li)) (omega arith)

  o-in : (o < j) × (leaf_in y c t o ≡ i)
  o-in = h.named i o li z occ

  -- no other point lies in node i
  o-alone : (x : ℕ) → x < j → (x ≡ o → ⊥) → leaf_in y c t x ≡ i → ⊥
  o-alone x l n e =
      let f : ℕ → ℕ = λ x. bit (eqb (leaf_in y c t x) i) in
      let s : sum f j ≡ 1 = sym (h.counts i li z) ∙ one in
      let fo : f o ≡ 1 = bit-yes (leaf_in y c t o) i o-in.1 in
      let fx : f x ≡ 1 = bit-yes (leaf_in y c t x) i e in
      elim (dec_lt x o) [
        | yes w ↦ omega (arith, s, sum-two f j x o w o-in.0 (omega (arith, fx)) (omega (arith, fo)))
        | no w ↦ omega (arith, s, sum-two f j o x (omega (arith, w, n)) l (omega (arith, fo)) (omega (arith, fx)))
      ]

  old-points : (m : ℕ) → m < u → (m ≡ i → ⊥) → points_of y c t' j m ≡ points_of y c t j m
  old-points m lm n = sum_same (λ x. bit (eqb (leaf_in y c t' x) m)) (λ x. bit (eqb (leaf_in y c t x) m)) j (λ x _. elim (ℕ_discrete (leaf_in y c t x) i) [
    | yes e ↦ bit-no (leaf_in y c t' x) m (λ w. high (corner (point_of y c x)) (sym ((routes (point_of y c x)).0 e) ∙ w)) ∙ sym (bit-no (leaf_in y c t x) m (λ w. n (sym w ∙ e)))
    | no e ↦ ap (λ (v : ℕ). bit (eqb v m)) ((routes (point_of y c x)).1 e)
  ])
    where
      high : (b : ℕ) → u + b ≡ m → ⊥
      high b w = omega (arith, w, lm)

  new-points : (b : ℕ) → b < 2 ^ c → points_of y c t' j (u + b) ≡ bit (eqb (u + corner q) (u + b))
  new-points b lb =
      sum-at (λ x. bit (eqb (leaf_in y c t' x) (u + b))) j o o-in.0
      (λ x l n. bit-no (leaf_in y c t' x) (u + b) (λ w. low (route-ends c (point_of y c x) u ns k.above 0 (omega (arith, li))).0 (sym ((routes (point_of y c x)).1 (o-alone x l n)) ∙ w)))
      ∙ ap (λ (v : ℕ). bit (eqb v (u + b))) ((routes q).0 o-in.1)
    where
      low : {x : ℕ} → x < u → x ≡ u + b → ⊥
      low {x} l w = omega (arith, l, w)

  child-counts : (b : ℕ) → (child_of c a o q b).count ≡ bit (eqb (u + corner q) (u + b))
  unfolding absorbed
  child-counts b = elim (ℕ_discrete b (corner q)) [
    | yes x ↦ ap (λ (v : ℕ). (child_of c a o q v).count) x ∙ child-count c d i u ns k li room p o q z one space ∙ sym (bit-yes (u + corner q) (u + b) (ap (λ (v : ℕ). u + v) (sym x)))
    | no x ↦ child-empty c d i u ns k li room p o q z one space b x ∙ sym (bit-no (u + corner q) (u + b) (λ w. x (omega (arith, w))))
  ]

  pub split-placed : Lodged y c j t'
  unfolding absorbed
  split-placed = record {
    counts = λ m l e. elim (dec_lt m u) [
      | yes s ↦ (let n = not-i m e in ap (λ (v : Node). v.count) (old-is m s n) ∙ h.counts m s (sym (ap (λ (v : Node). v.first) (old-is m s n)) ∙ e) ∙ sym (old-points m s n))
      | no s ↦
          let b = m - u in
          let x : u + b ≡ m = omega (arith, s) in
          let lb : b < 2 ^ c = omega (arith, s, l) in
          subst (λ (v : ℕ). (node_at new v).count ≡ points_of y c t' j v) x (ap (λ (v : Node). v.count) (child-is b lb) ∙ child-counts b ∙ sym (new-points b lb))
    ];
    named = λ m o' l e w. elim (dec_lt m u) [
      | yes s ↦
          let n = not-i m e in
          let r = h.named m o' s (sym (ap (λ (v : Node). v.first) (old-is m s n)) ∙ e) (sym (ap (λ (v : Node). v.leaf) (old-is m s n)) ∙ w) in
          (r.0, (routes (point_of y c o')).1 (λ f. n (sym r.1 ∙ f)) ∙ r.1)
      | no s ↦
          let b = m - u in
          let x : u + b ≡ m = omega (arith, s) in
          let lb : b < 2 ^ c = omega (arith, s, l) in
          let r = child-named c a o q b o' (sym (ap (λ (v : Node). v.leaf) (child-is b lb)) ∙ (ap (λ (v : ℕ). (node_at new v).leaf) x ∙ w)) in
          subst (λ (v : ℕ). (v < j) × (leaf_in y c t' v ≡ m)) (sym r.1) (o-in.0, (routes q).0 o-in.1 ∙ ap (λ (v : ℕ). u + v) (sym r.0) ∙ x)
    ];
  }
    where
      not-i : (m : ℕ) → (node_at new m).first ≡ 0 → m ≡ i → ⊥
      not-i m e x = omega (arith, sym first-at ∙ (ap (λ (v : ℕ). (node_at new v).first) (sym x) ∙ e), li)

  -- where the point that comes is
  pub split-way : leaf_for u c p ns 0 ≡ i → leaf_for (u + 2 ^ c) c p new 0 ≡ leaf_for (u + 2 ^ c) c p new (u + corner p)
  split-way e = (routes p).0 e ∙ sym (route-leaf c p (u + 2 ^ c) new then'.above (u + corner p) (first-new c d i u ns k li room p o q z one space (corner p) (child-below c (node_at ns i).centre p)))

-- ---- one descent, of point j

module _ (n c m cap N r : ℕ) (y : List Float) (j : ℕ) (hj : j < n) (hm : 1 ≤ m) (fit : N ≤ cap) where
  abbrev p : List Float
  p = point_of y c j

  -- the first j points are in, and the way of point j leads through node i
  pub record Enters (i : ℕ) (t : Tree) : Type 0 where
    pub placed : Lodged y c j t
    pub way : leaf_for t.used c p t.nodes 0 ≡ leaf_for t.used c p t.nodes i

  module _ (d i : ℕ) (t : Tree) (ok : Ok n c m cap N y p d i t) (k : Comes c d i r t) (e : Enters i t) where
    abbrev v : Node
    v = node_at t.nodes i

    abbrev u : ℕ
    u = t.used

    abbrev ns : List Node
    ns = t.nodes

    whole : u ≤ length ns
    whole = omega (arith, ok.room, ok.nodes)

    says : v.first ≡ 0 → LeafCounts d v.count v.leaf
    says z = subst (λ (x : ℕ). LeafCounts x v.count v.leaf) k.tallied.depth (k.tallied.leaf i ok.node z)

    comes-here : v.first ≡ 0 → leaf_for u c p ns 0 ≡ i
    comes-here z = e.way ∙ route-leaf c p u ns k.tallied.above i z

    abbrev Step : Out → Type 0
    Step x = (x.last ≡ false → Ok n c m cap N y p (d + 1) x.next (levelled y c i x t)) → (x.last ≡ false → Enters x.next (levelled y c i x t)) ×
        (x.last ≡ true → Lodged y c (j + 1) (levelled y c i x t))

    inner : (v.first ≡ 0 → ⊥) → Enters (v.first + child_index c v.centre p) (tree u (set ns i (absorbed c p v)))
    unfolding absorbed
    inner z = record {
      placed = inner-placed y c j i u ns e.placed ok.node whole (absorbed c p v) refl refl z;
      way = kept 0 ∙ e.way ∙ route-inner c p u ns k.tallied.above i ok.node z ∙ sym (kept (v.first + child_index c v.centre p));
    }
      where
        kept : (x : ℕ) → leaf_for u c p (set ns i (absorbed c p v)) x ≡ leaf_for u c p ns x
        kept x = routes-kept y c j i u ns e.placed ok.node whole (absorbed c p v) refl refl p x

    ends : (w : Node) → w.first ≡ v.first → w.centre ≡ v.centre → w.count ≡ v.count + 1 → v.first ≡ 0 → ((o : ℕ) → w.leaf ≡ Some o → (o < j + 1) ×
        (leaf_in y c t o ≡ i)) → Lodged y c (j + 1) (tree u (set ns i w))
    ends w ef ez ec z wn = last-placed y c j i u ns e.placed ok.node whole w ef ez ec z (comes-here z) wn

    splits : (o : ℕ) → v.first ≡ 0 → v.leaf ≡ Some o → d < deepest → u + 2 ^ c ≤ length ns →
        Enters (u + child_index c v.centre p) (levelled y c i (out (parent u (absorbed c p v)) (u + child_index c v.centre p) (2 ^ c) o false) t)
    splits o z q l space =
        let one : v.count ≡ 1 = one-held d v.count v.leaf o q l (says z) in
        record {
          placed = split-placed y c j d i u ns e.placed k.tallied ok.node whole p o z one space q;
          way = split-way y c j d i u ns e.placed k.tallied ok.node whole p o z one space q (comes-here z);
        }

    enters : Step (turn_at c p j d i t)
    unfolding absorbed
    enters = turn-cases c p j d u v Step
        (λ z _. (
          (λ _. subst (Enters (v.first + child_index c v.centre p)) (sym (level-plain y c i (absorbed c p v) (v.first + child_index c v.centre p) j false t)) (inner z)),
          λ x. absurd (true≢false (sym x)),
        ))
        (λ z q _. (
          (λ x. absurd (true≢false x)),
          λ _. subst (Lodged y c (j + 1)) (sym (level-plain y c i (occupied j (absorbed c p v)) 0 j true t))
              (ends (occupied j (absorbed c p v)) refl refl refl z (λ o w. subst (λ (x : ℕ). (x < j + 1) ×
              (leaf_in y c t x ≡ i)) (sym (word_same j o w)) (omega arith, comes-here z))),
        ))
        (λ o z q l _. (
          (λ x. absurd (true≢false x)),
          λ _. subst (Lodged y c (j + 1)) (sym (level-plain y c i (absorbed c p v) 0 j true t))
              (ends (absorbed c p v) refl refl refl z (λ o' w. let g = e.placed.named i o' ok.node z w in (omega (arith, g.0), g.1))),
        ))
        (λ o z q l next. (
          (λ x. splits o z q l (omega (arith, (next x).room, ok.nodes))),
          λ x. absurd (true≢false (sym x)),
        ))

  places : (g d i : ℕ) (t : Tree) → g ≡ cap - d → Ok n c m cap N y p d i t → Comes c d i r t → Enters i t → Lodged y c (j + 1) (inserted g y c p j d i t)
  places zero d i t z ok k e = absurd (none_left z ok.deep ok.node ok.room)
    where
      none_left : {d i u : ℕ} → 0 ≡ cap - d → d ≤ i → i < u → u ≤ cap → ⊥
      none_left e a b c = omega (arith, e, a, b, c)
  places (suc g) d i t z ok k e =
      let next = ok-next n c m cap N y p j hj hm fit d i t ok in
      by_bool (Lodged y c (j + 1) (inserted (suc g) y c p j d i t)) (turn_at c p j d i t).last
      (λ x. rw (inserted-last g y c p j d i t (turn_at c p j d i t) refl x) ((enters d i t ok k e next).1 x))
      (λ x. rw (inserted-next g y c p j d i t (turn_at c p j d i t) refl x)
      (places g (d + 1) (turn_at c p j d i t).next (level_at y c p j d i t) (omega (arith, z)) (next x)
      ((comes n c m cap N r y p j hj hm fit d i t ok k next).0 x) ((enters d i t ok k e next).0 x)))

-- ---- all of them, from the box on

module _ (y : List Float) (n c : ℕ) where
  one_more : (m j r : ℕ) (t : Tree) → j < n → 1 ≤ m → tree_ok n m c t ≡ true → 0 < t.used → t.used ≤ length t.nodes →
      t.used + needed y c j t ≤ nameable (length t.nodes) → Settled c r t → Lodged y c j t → Lodged y c (j + 1) (insert_of y c j t).tree
  one_more m j r t hj hm ok some inside fit k e =
      rw (taken y c j t fit)
      (places n c m (length t.nodes) (t.used + needed y c j t) (r + 1) y j hj hm (omega (arith, fit, nameable-most (length t.nodes)))
      (length t.nodes) 0 0 t (less (length t.nodes)) (ok-start n c m y (point_of y c j) t ok some inside)
      (record { tallied = k.tallied; early = λ _. ap (λ (x : ℕ). x + 1) k.root; late = λ z. absurd (z refl) })
      (record { placed = e; way = refl }))
    where
      less : (g : ℕ) → g ≡ g - 0
      less g = omega arith

  box-empty : (v : Node) (rest : List Node) → ((node_at (boxed y n c (v ∷ rest)).nodes 0).count ≡ 0) × ((node_at (boxed y n c (v ∷ rest)).nodes 0).leaf ≡ None)
  unfolding box_of
  box-empty v rest = (refl, refl)

  box-placed : (before : List Node) → 0 < length before → Lodged y c 0 (boxed y n c before)
  box-placed [] h = absurd (not-suc-le-zero h)
  box-placed (v ∷ rest) h = record {
    counts = λ k l z. box-count k l ∙ sym (sum-none (λ j. bit (eqb (leaf_in y c (boxed y n c (v ∷ rest)) j) k)));
    named = λ k o l z e. absurd (word-apart o (sym (box-leaf k l) ∙ e));
  }
    where
      root : (k : ℕ) → k < 1 → k ≡ 0
      root k l = omega (arith, l)

      box-count : (k : ℕ) → k < 1 → (node_at (boxed y n c (v ∷ rest)).nodes k).count ≡ 0
      box-count k l = ap (λ (x : ℕ). (node_at (boxed y n c (v ∷ rest)).nodes x).count) (root k l) ∙ (box-empty v rest).0

      box-leaf : (k : ℕ) → k < 1 → (node_at (boxed y n c (v ∷ rest)).nodes k).leaf ≡ None
      box-leaf k l = ap (λ (x : ℕ). (node_at (boxed y n c (v ∷ rest)).nodes x).leaf) (root k l) ∙ (box-empty v rest).1

  module _ (before : List Node) (h : 0 < length before) where
    abbrev boxed_tree : Tree
    boxed_tree = boxed y n c before

    pub built-placed : (i : ℕ) → i ≤ n → (built y c i boxed_tree).full ≡ false → Lodged y c i (built y c i boxed_tree).tree
    built-placed = built-keeps y n c boxed_tree (Lodged y c) (box-placed before h) (λ i l f q s.
        let t = (built y c i boxed_tree).tree in
        let a = built-stands y n c before h i (omega (arith, l)) f in
        one_more (i + 1) i i t l (omega arith) a.tree a.some a.within (taken-fits y c i t q) a.settled s)
