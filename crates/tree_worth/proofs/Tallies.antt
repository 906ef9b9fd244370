-- What each level of an insertion keeps of counts, depths and parents: node i, and what is below it, is yet to count the point that the nodes above it have counted. Assumes nothing.
use mathlib.Core.Path.{◌≡◌, refl, sym, ap, subst, ◌∙◌}
use mathlib.Core.List.{List}
use mathlib.Core.Bool.{cond}
use Prim.Native.Nat.{ℕ, ◌+◌, ◌-◌, ◌^◌, ◌<◌, ◌≤◌}
use native.Mathlib.Omega.{arith}
use native.Mathlib.Decide.{ℕ_discrete, dec_lt}
use native.Mathlib.Nat.{mul-zero, add-zero}
use lib.Dec.{ltb, leb}
use lib.ListN.{length, set, length-set}
use lib.Seq.{get_or-set_same, get_or-set_other}
use lib.Ieee.{Float}
use borrow.Author.Tests.{eq-eqb, ne_eqb, lt-ltb, le-ltb, le-leb, lt-leb}
use Rattle.laws.specs.Sums.{sum}
use Rattle.laws.proofs.Sums.{sum_same, sum-const}
use Rattle.tree_node.specs.declared.Node.{Node}
use Rattle.tree_node.specs.Arena.{node_at, blank}
use Rattle.tree_children.specs.Children.{child_index}
use Rattle.tree_children.proofs.Below.{child-below}
use Rattle.tree_turns.specs.Turns.{absorbed, parent, child_of}
use Rattle.tree.specs.Insert.{Tree, tree, subdivided}
use Rattle.tree.proofs.Grow.{filled-out, filled_in}
use Rattle.tree_worth.specs.Worth.{block_counts, child_counts, LeafCounts}
use Rattle.tree_worth.proofs.Sums.{sum-bumped}

-- ---- w is stored as node i

module _ (ns : List Node) (i : ℕ) (w : Node) where
  pub stored_other : (x : ℕ) → (x ≡ i → ⊥) → node_at (set ns i w) x ≡ node_at ns x
  stored_other x n = get_or-set_other ns i x w blank n

  -- what w has as node i had it, every node has as before
  pub stored_same : {A : Type 0} (f : Node → A) → i < length ns → f w ≡ f (node_at ns i) → (x : ℕ) → f (node_at (set ns i w) x) ≡ f (node_at ns x)
  stored_same f l e x = elim (ℕ_discrete x i) [ yes q ↦ rw q (ap f (get_or-set_same ns i w blank l) ∙ e) | no n ↦ ap f (stored_other x n) ]

-- ---- what is owed

-- what the children from node f on have yet to count: 1 where node i is one of them
unfoldable pub owed : ℕ → ℕ → ℕ → ℕ
owed c f i = cond (leb f i) (cond (ltb i (f + 2 ^ c)) 1 0) 0

pub owed-in : (c f i : ℕ) → f ≤ i → i < f + 2 ^ c → owed c f i ≡ 1
unfolding owed
owed-in c f i a b = rw (le-leb f i a, lt-ltb i (f + 2 ^ c) b)

pub owed-out : (c f i : ℕ) → (f ≤ i → i < f + 2 ^ c → ⊥) → owed c f i ≡ 0
unfolding owed
owed-out c f i n =
    elim (dec_lt i f) [
      | yes x ↦ rw (lt-leb f i x)
      | no x ↦ elim (dec_lt i (f + 2 ^ c)) [
        | yes z ↦ absurd (n (omega (arith, x)) z)
        | no z ↦ rw (le-leb f i (omega (arith, x)), le-ltb i (f + 2 ^ c) (omega (arith, z)))
      ]
    ]

-- every node has a parent and a depth; node i, at depth d, is yet to count the point. Where i is the root, no count is owed
pub record Tallied (c d i : ℕ) (t : Tree) : Type 0 where
  pub up : ℕ → ℕ
  pub deep : ℕ → ℕ
  pub at-root : deep 0 ≡ 0
  pub depth : deep i ≡ d
  pub above : (k : ℕ) → k < t.used → ((node_at t.nodes k).first ≡ 0 → ⊥) → (k < (node_at t.nodes k).first) × ((node_at t.nodes k).first + 2 ^ c ≤ t.used)
  pub of-child : (k : ℕ) → k < t.used → ((node_at t.nodes k).first ≡ 0 → ⊥) → (b : ℕ) → b < 2 ^ c → (up ((node_at t.nodes k).first + b) ≡ k) × (deep ((node_at t.nodes k).first + b) ≡ deep k + 1)
  pub has-parent : (k : ℕ) → 0 < k → k < t.used → (up k < k) × ((node_at t.nodes (up k)).first ≡ 0 → ⊥) × ((node_at t.nodes (up k)).first ≤ k) × (k < (node_at t.nodes (up k)).first + 2 ^ c)
  pub tally : (k : ℕ) → k < t.used → ((node_at t.nodes k).first ≡ 0 → ⊥) → (node_at t.nodes k).count ≡ child_counts c t.nodes k + owed c (node_at t.nodes k).first i
  pub leaf : (k : ℕ) → k < t.used → (node_at t.nodes k).first ≡ 0 → LeafCounts (deep k) (node_at t.nodes k).count (node_at t.nodes k).leaf

-- node i has counted one more: so has the block that it is in
block_owed : (c i f : ℕ) (ns ms : List Node) → (node_at ms i).count ≡ (node_at ns i).count + 1 → ((x : ℕ) → f ≤ x → x < f + 2 ^ c → (x ≡ i → ⊥) →
    (node_at ms x).count ≡ (node_at ns x).count) → block_counts c ms f ≡ block_counts c ns f + owed c f i
block_owed c i f ns ms e s =
    elim (dec_lt i f) [
      | yes x ↦ out (λ a b. omega (arith, a, x))
      | no x ↦ elim (dec_lt i (f + 2 ^ c)) [
        | yes z ↦ inside (omega (arith, x)) z
        | no z ↦ out (λ a b. omega (arith, b, z))
      ]
    ]
  where
    out : (f ≤ i → i < f + 2 ^ c → ⊥) → block_counts c ms f ≡ block_counts c ns f + owed c f i
    out n = rw (owed-out c f i n, add-zero)
        (sum_same (λ b. (node_at ms (f + b)).count) (λ b. (node_at ns (f + b)).count) (2 ^ c) (λ b l. s (f + b) (omega arith) (omega arith) (λ z. n
        (omega (arith, z)) (omega (arith, z, l)))))

    inside : f ≤ i → i < f + 2 ^ c → block_counts c ms f ≡ block_counts c ns f + owed c f i
    inside a b =
        let q : f + (i - f) ≡ i = omega (arith, a) in
        rw (owed-in c f i a b)
        (sum-bumped (λ b. (node_at ns (f + b)).count) (λ b. (node_at ms (f + b)).count) (2 ^ c) (i - f) (omega (arith, a, b))
        (rw q e)
        (λ k l z. s (f + k) (omega arith) (omega arith) (λ w. z (omega (arith, w, q)))))

module _ (c d i u : ℕ) (ns : List Node) (k : Tallied c d i (tree u ns)) (li : i < u) (room : u ≤ length ns) where
  abbrev v : Node
  v = node_at ns i

  -- node i is nobody's child but its parent's
  one_block : (x y : ℕ) → x < u → y < u → ((node_at ns x).first ≡ 0 → ⊥) → ((node_at ns y).first ≡ 0 → ⊥) → (b : ℕ) → b < 2 ^ c →
      (node_at ns x).first ≤ (node_at ns y).first + b → (node_at ns y).first + b < (node_at ns x).first + 2 ^ c → x ≡ y
  one_block x y lx ly zx zy b lb h l =
      let a = (node_at ns y).first + b - (node_at ns x).first in
      let q : (node_at ns x).first + a ≡ (node_at ns y).first + b = omega (arith, h) in
      sym (k.of-child x lx zx a (omega (arith, h, l))).0 ∙ ap k.up q ∙ (k.of-child y ly zy b lb).0

  -- ---- a level that only stores its node

  module _ (w : Node) (ef : w.first ≡ v.first) (ec : w.count ≡ v.count + 1) where
    abbrev ms : List Node
    ms = set ns i w

    here : node_at ms i ≡ w
    here = get_or-set_same ns i w blank (omega (arith, li, room))

    first-same : (x : ℕ) → (node_at ms x).first ≡ (node_at ns x).first
    first-same = stored_same ns i w (λ y. y.first) (omega (arith, li, room)) ef

    count-here : (node_at ms i).count ≡ v.count + 1
    count-here = ap (λ (y : Node). y.count) here ∙ ec

    sums_on : (f : ℕ) → block_counts c ms f ≡ block_counts c ns f + owed c f i
    sums_on f = block_owed c i f ns ms count-here (λ x a b n. ap (λ (y : Node). y.count) (stored_other ns i w x n))

    module _ (e next : ℕ) (depth-next : k.deep next ≡ e) (here-owed : (v.first ≡ 0 → ⊥) → owed c v.first next ≡ 1)
        (none-owed : (x : ℕ) → x < u → (x ≡ i → ⊥) → ((node_at ns x).first ≡ 0 → ⊥) → owed c (node_at ns x).first next ≡ 0)
        (says : v.first ≡ 0 → LeafCounts (k.deep i) w.count w.leaf) where
      tally-on : (x : ℕ) → x < u → ((node_at ns x).first ≡ 0 → ⊥) → (node_at ms x).count ≡ block_counts c ms (node_at ns x).first + owed c (node_at ns x).first next
      tally-on x lx z =
          elim (ℕ_discrete x i) [
            | yes e ↦
                let z' : v.first ≡ 0 → ⊥ = λ q. z (ap (λ (y : ℕ). (node_at ns y).first) e ∙ q) in
                let r : (node_at ms x).count ≡ v.count + 1 = ap (λ (y : ℕ). (node_at ms y).count) e ∙ count-here in
                let o : owed c (node_at ns x).first next ≡ 1 = ap (λ (y : ℕ). owed c (node_at ns y).first next) e ∙ here-owed z' in
                let t : v.count ≡ block_counts c ns v.first + owed c v.first i = k.tally i li z' in
                let s : block_counts c ms (node_at ns x).first ≡ block_counts c ns v.first + owed c v.first i = ap (λ (y : ℕ). block_counts c ms (node_at ns y).first) e ∙ sums_on v.first in
                omega (arith, r, o, t, s)
            | no n ↦
                let r : (node_at ms x).count ≡ (node_at ns x).count = ap (λ (y : Node). y.count) (stored_other ns i w x n) in
                omega (arith, r, none-owed x lx n z, k.tally x lx z, sums_on (node_at ns x).first)
          ]

      leaf-on : (x : ℕ) → x < u → (node_at ns x).first ≡ 0 → LeafCounts (k.deep x) (node_at ms x).count (node_at ms x).leaf
      leaf-on x lx z =
          elim (ℕ_discrete x i) [
            | yes e ↦ rw (e, here) (says (sym (ap (λ (y : ℕ). (node_at ns y).first) e) ∙ z))
            | no n ↦ rw (stored_other ns i w x n) (k.leaf x lx z)
          ]

      pub stored-tallied : Tallied c e next (tree u ms)
      stored-tallied = record {
        up = k.up;
        deep = k.deep;
        at-root = k.at-root;
        depth = depth-next;
        above = λ x lx z. rw (first-same x) (k.above x lx (λ e. z (first-same x ∙ e)));
        of-child = λ x lx z b lb. rw (first-same x) (k.of-child x lx (λ e. z (first-same x ∙ e)) b lb);
        has-parent = λ x a b. rw (first-same (k.up x)) (k.has-parent x a b);
        tally = λ x lx z. rw (first-same x) (tally-on x lx (λ e. z (first-same x ∙ e)));
        leaf = λ x lx z. leaf-on x lx (sym (first-same x) ∙ z);
      }

  -- the point goes on into a child
  pub inner-tallied : (w : Node) → w.first ≡ v.first → w.count ≡ v.count + 1 → (v.first ≡ 0 → ⊥) → (b : ℕ) → b < 2 ^ c → Tallied c (d + 1) (v.first + b) (tree u (set ns i w))
  inner-tallied w ef ec z b lb =
      stored-tallied w ef ec (d + 1) (v.first + b) ((k.of-child i li z b lb).1 ∙ ap (λ (x : ℕ). x + 1) k.depth) (λ _. owed-in c v.first (v.first + b) (omega arith) (omega (arith, lb)))
      (λ x lx n zx. owed-out c (node_at ns x).first (v.first + b) (λ h l. n (one_block x i lx li zx z b lb h l)))
      (λ e. absurd (z e))

  -- the point is in
  pub last-tallied : (w : Node) → w.first ≡ v.first → w.count ≡ v.count + 1 → v.first ≡ 0 → LeafCounts d w.count w.leaf → Tallied c 0 0 (tree u (set ns i w))
  last-tallied w ef ec z says =
      stored-tallied w ef ec 0 0 k.at-root (λ n. absurd (n z))
      (λ x lx n zx. owed-out c (node_at ns x).first 0 (λ h l. zx (omega (arith, h))))
      (λ _. rw k.depth says)

  -- ---- a level that splits its node

  module _ (p : List Float) (o : ℕ) (q : List Float) (z : v.first ≡ 0) (one : v.count ≡ 1) (space : u + 2 ^ c ≤ length ns) where
    abbrev a : Node
    a = parent u (absorbed c p v)

    abbrev new : List Node
    new = subdivided c a o q (2 ^ c) (set ns i a)

    pub new-here : node_at new i ≡ a
    new-here = filled-out c a o q (2 ^ c) (set ns i a) i (λ s t. omega (arith, s, li)) ∙ get_or-set_same ns i a blank (omega (arith, li, room))

    pub new-old : (x : ℕ) → x < u → (x ≡ i → ⊥) → node_at new x ≡ node_at ns x
    new-old x lx n = filled-out c a o q (2 ^ c) (set ns i a) x (λ s t. omega (arith, s, lx)) ∙ get_or-set_other ns i x a blank n

    pub new-child : (b : ℕ) → b < 2 ^ c → node_at new (u + b) ≡ child_of c a o q b
    new-child b lb = filled_in c a o q (2 ^ c) (set ns i a) b lb (omega (arith, lb, space, length-set ns i a))

    pub child-first : (b : ℕ) → (child_of c a o q b).first ≡ 0
    unfolding child_of absorbed
    child-first b = elim (ℕ_discrete b (child_index c a.centre q)) [ yes e ↦ rw (eq-eqb b (child_index c a.centre q) e) | no n ↦ rw (ne_eqb b (child_index c a.centre q) n) ]

    pub child-count : (child_of c a o q (child_index c a.centre q)).count ≡ 1
    unfolding child_of absorbed
    child-count = rw (eq-eqb (child_index c a.centre q) (child_index c a.centre q) refl)

    pub child-empty : (b : ℕ) → (b ≡ child_index c a.centre q → ⊥) → (child_of c a o q b).count ≡ 0
    unfolding child_of absorbed
    child-empty b n = rw (ne_eqb b (child_index c a.centre q) n)

    child-says : (d b : ℕ) → LeafCounts d (child_of c a o q b).count (child_of c a o q b).leaf
    unfolding child_of absorbed
    child-says d b = elim (ℕ_discrete b (child_index c a.centre q)) [
      | yes e ↦ rw (eq-eqb b (child_index c a.centre q) e) (omega arith, λ _. refl)
      | no n ↦
          rw (ne_eqb b (child_index c a.centre q) n) refl
    ]

    -- the old point is in one of the children
    children-count : block_counts c new u ≡ 1
    children-count =
        let s = child_index c a.centre q in
        let l : s < 2 ^ c = child-below c a.centre q in
        let r : sum (λ (_ : ℕ). 0) (2 ^ c) ≡ 0 = sum-const 0 (2 ^ c) ∙ mul-zero (2 ^ c) in
        let t : block_counts c new u ≡ sum (λ (_ : ℕ). 0) (2 ^ c) + 1 = sum-bumped (λ _. 0) (λ b. (node_at new (u + b)).count) (2 ^ c) s l
        (ap (λ (y : Node). y.count) (new-child s l) ∙ child-count) (λ b lb n. ap (λ (y : Node). y.count) (new-child b lb) ∙ child-empty b n) in
        omega (arith, r, t)

    count-on : (node_at new i).count ≡ v.count + 1
    unfolding absorbed
    count-on = ap (λ (y : Node). y.count) new-here

    sums-old : (f : ℕ) → f + 2 ^ c ≤ u → block_counts c new f ≡ block_counts c ns f + owed c f i
    sums-old f l = block_owed c i f ns new count-on (λ x s t n. ap (λ (y : Node). y.count) (new-old x (omega (arith, t, l)) n))

    -- parents and depths, the new children's besides
    abbrev up' : ℕ → ℕ
    up' x = cond (ltb x u) (k.up x) i

    abbrev deep' : ℕ → ℕ
    deep' x = cond (ltb x u) (k.deep x) (k.deep i + 1)

    up-old : (x : ℕ) → x < u → up' x ≡ k.up x
    up-old x l = rw (lt-ltb x u l)

    up-new : (x : ℕ) → u ≤ x → up' x ≡ i
    up-new x l = rw (le-ltb x u l)

    deep-old : (x : ℕ) → x < u → deep' x ≡ k.deep x
    deep-old x l = rw (lt-ltb x u l)

    deep-new : (x : ℕ) → u ≤ x → deep' x ≡ k.deep i + 1
    deep-new x l = rw (le-ltb x u l)

    -- what holds of node i, of each other old node and of each child holds of all
    each-node : (P : ℕ → Type 0) → P i → ((x : ℕ) → x < u → (x ≡ i → ⊥) → P x) → ((b : ℕ) → b < 2 ^ c → P (u + b)) → (x : ℕ) → x < u + 2 ^ c → P x
    each-node P pi po pn x l =
        elim (dec_lt x u) [
          | yes h ↦ elim (ℕ_discrete x i) [ yes e ↦ subst P (sym e) pi | no n ↦ po x h n ]
          | no h ↦ (let e : u + (x - u) ≡ x = omega (arith, h) in subst P e (pn (x - u) (omega (arith, h, l))))
        ]

    pub first-i : (node_at new i).first ≡ u
    unfolding absorbed
    first-i = ap (λ (y : Node). y.first) new-here

    first-old : (x : ℕ) → x < u → (x ≡ i → ⊥) → (node_at new x).first ≡ (node_at ns x).first
    first-old x l n = ap (λ (y : Node). y.first) (new-old x l n)

    pub first-new : (b : ℕ) → b < 2 ^ c → (node_at new (u + b)).first ≡ 0
    first-new b l = ap (λ (y : Node). y.first) (new-child b l) ∙ child-first b

    -- node i had no children, so it was nobody's parent
    no-child : (x : ℕ) → 0 < x → x < u → k.up x ≡ i → ⊥
    no-child x h l e = (k.has-parent x h l).1 (ap (λ (y : ℕ). (node_at ns y).first) e ∙ z)

    pub split-tallied : (b : ℕ) → b < 2 ^ c → Tallied c (d + 1) (u + b) (tree (u + 2 ^ c) new)
    split-tallied b lb = record {
      up = up';
      deep = deep';
      at-root = deep-old 0 (omega (arith, li)) ∙ k.at-root;
      depth = deep-new (u + b) (omega arith) ∙ ap (λ (y : ℕ). y + 1) k.depth;
      above = each-node (λ x. ((node_at new x).first ≡ 0 → ⊥) → (x < (node_at new x).first) × ((node_at new x).first + 2 ^ c ≤ u + 2 ^ c))
          (λ _. rw first-i (li, omega arith))
          (λ x l n. rw (first-old x l n) (λ h. ((k.above x l h).0, omega (arith, (k.above x l h).1))))
          (λ b l h. absurd (h (first-new b l)));
      of-child = each-node (λ x. ((node_at new x).first ≡ 0 → ⊥) → (b : ℕ) → b < 2 ^ c → (up' ((node_at new x).first + b) ≡ x) × (deep' ((node_at new x).first + b) ≡ deep' x + 1))
          (λ _ b l. rw first-i (up-new (u + b) (omega arith), deep-new (u + b) (omega arith) ∙ ap (λ (y : ℕ). y + 1) (sym (deep-old i li))))
          (λ x l n. rw (first-old x l n) (λ h b lb.
          let s : (node_at ns x).first + b < u = omega (arith, (k.above x l h).1, lb) in
          (up-old ((node_at ns x).first + b) s ∙ (k.of-child x l h b lb).0, deep-old ((node_at ns x).first + b) s ∙ (k.of-child x l h b lb).1 ∙ ap (λ (y : ℕ). y + 1) (sym (deep-old x l)))))
          (λ b l h. absurd (h (first-new b l)));
      has-parent = λ x h l. elim (dec_lt x u) [
        | yes s ↦
            let e = up-old x s in
            let g = k.has-parent x h s in
            let f : (node_at new (up' x)).first ≡ (node_at ns (k.up x)).first = ap (λ (y : ℕ). (node_at new y).first) e ∙ first-old (k.up x) (omega (arith, g.0, s)) (no-child x h s) in
            (omega (arith, e, g.0), (λ y. g.1 (sym f ∙ y)), omega (arith, f, g.2), omega (arith, f, g.3))
        | no s ↦
            let e = up-new x (omega (arith, s)) in
            let f : (node_at new (up' x)).first ≡ u = ap (λ (y : ℕ). (node_at new y).first) e ∙ first-i in
            (omega (arith, e, li, s), (λ y. omega (arith, f, y, li)), omega (arith, f, s), omega (arith, f, l))
      ];
      tally = each-node (λ x. ((node_at new x).first ≡ 0 → ⊥) → (node_at new x).count ≡ child_counts c new x + owed c (node_at new x).first (u + b))
          (λ _. rw first-i (omega (arith, count-on, one, children-count, owed-in c u (u + b) (omega arith) (omega (arith, lb)))))
          (λ x l n. rw (first-old x l n) (λ h.
          let f = (node_at ns x).first in
          let s : (node_at new x).count ≡ (node_at ns x).count = ap (λ (y : Node). y.count) (new-old x l n) in
          omega (arith, s, k.tally x l h, sums-old f (k.above x l h).1, owed-out c f (u + b) (λ s t. omega (arith, t, (k.above x l h).1)))))
          (λ b l h. absurd (h (first-new b l)));
      leaf = each-node (λ x. (node_at new x).first ≡ 0 → LeafCounts (deep' x) (node_at new x).count (node_at new x).leaf)
          (λ h. absurd (zero-not h))
          (λ x l n. rw (new-old x l n, deep-old x l) (k.leaf x l))
          (λ b l _. rw (new-child b l) (child-says (deep' (u + b)) b));
    }
      where
        zero-not : (node_at new i).first ≡ 0 → ⊥
        zero-not h = omega (arith, sym first-i ∙ h, li)
