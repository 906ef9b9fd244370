-- The theorem of the insertion's descent: each level keeps a well-formed tree well formed and uses the nodes that the dry count foresaw. Assumes nothing.
use mathlib.Core.Path.{◌≡◌, refl, sym, ap, subst, ◌∙◌}
use mathlib.Core.List.{List}
use mathlib.Core.Bool.{Bool, true, false, ◌&&◌, true≢false}
use Prim.Native.Nat.{ℕ, zero, suc, ◌+◌, ◌-◌, ◌*◌, ◌^◌, ◌<◌, ◌≤◌}
use native.Mathlib.Omega.{arith}
use native.Mathlib.Nat.{add-zero, one-mul, zero-mul, suc-mul, sub-zero, le_trans, mul-le-mul_right, mul-le-mul_left}
use native.Mathlib.Decide.{ℕ_discrete, dec_lt}
use lib.Dec.{ltb, leb}
use lib.ListN.{length, set, length-set}
use lib.Seq.{get_or-set_same, get_or-set_other}
use lib.Pow.{pow_mono}
use lib.Ieee.{Float}
use borrow.Author.Tests.{ltb-true, leb-true, eq-eqb, ne_eqb, lt-ltb, le-leb, lt-leb}
use Rattle.laws.specs.Domain.{deepest, most_word}
use Rattle.laws.proofs.Every.{every-at, every-all}
use Rattle.laws.proofs.Numbers.{left, row_in}
use Rattle.laws.proofs.Bools.{and_left, and_right}
use Rattle.tree_node.specs.declared.Node.{Node}
use Rattle.tree_turns.specs.declared.Out.{Out}
use Rattle.std.specs.declared.option.Option.{Option}
use Rattle.std.specs.declared.option.Option.TheVariants.{None, Some}
use Rattle.tree_node.specs.Node.{point_of}
use Rattle.tree_children.specs.Children.{child_index, cell_of}
use Rattle.tree_turns.specs.Turns.{child_of, absorbed, occupied, parent, out, leaf_turn, turn_of}
use Rattle.tree_node.specs.Arena.{leaf_word, node_at, blank}
use Rattle.tree.specs.Insert.{Tree, tree, subdivided, turn_at, levelled, level_at, inserted, splits_of, leaf_needs, needs_of, tree_ok}
use Rattle.tree_contents.specs.Contents.{point_ok, block_ok, node_ok}
use Rattle.tree_children.proofs.Below.{child-below}
use Rattle.tree.proofs.Grow.{splits-same, splits-apart, splits-le, length-filled, filled-out, filled_in, filled_none}

-- ---- a well-formed node, in numbers

pub record NodeFacts (n c m used k : ℕ) (v : Node) : Type 0 where
  pub few : v.count ≤ m
  pub point : point_ok n v.leaf ≡ true
  pub above : (v.first ≡ 0 → ⊥) → (k < v.first) × (v.first + 2 ^ c ≤ used)

block-facts : (c used k f : ℕ) → block_ok c used k f ≡ true → (f ≡ 0 → ⊥) → (k < f) × (f + 2 ^ c ≤ used)
block-facts c used k f e z =
    let h : ltb k f && leb (f + 2 ^ c) used ≡ true = rw (ne_eqb f 0 z) at e in
    (ltb-true k f (and_left (ltb k f) (leb (f + 2 ^ c) used) h), leb-true (f + 2 ^ c) used (and_right (ltb k f) (leb (f + 2 ^ c) used) h))

block-ok : (c used k f : ℕ) → ((f ≡ 0 → ⊥) → (k < f) × (f + 2 ^ c ≤ used)) → block_ok c used k f ≡ true
block-ok c used k f h = elim (ℕ_discrete f 0) [ yes e ↦ rw (eq-eqb f 0 e) | no z ↦ rw (ne_eqb f 0 z, lt-ltb k f (h z).0, le-leb (f + 2 ^ c) used (h z).1) ]

pub node-facts : (n c m used k : ℕ) (v : Node) → node_ok n m c used k v ≡ true → NodeFacts n c m used k v
unfolding node_ok
node-facts n c m used k v e =
    let b = block_ok c used k v.first in
    let r = and_right (leb v.count m) (point_ok n v.leaf && b) e in
    record {
      few = leb-true v.count m (and_left (leb v.count m) (point_ok n v.leaf && b) e);
      point = and_left
          (point_ok n v.leaf) b r;
      above = block-facts c used k v.first (and_right (point_ok n v.leaf) b r);
    }

pub node-ok : (n c m used k : ℕ) (v : Node) → NodeFacts n c m used k v → node_ok n m c used k v ≡ true
unfolding node_ok
node-ok n c m used k v f = rw (le-leb v.count m f.few, f.point, block-ok c used k v.first f.above)

point-below : (n : ℕ) (l : Option ℕ) (o : ℕ) → point_ok n l ≡ true → l ≡ Some o → o < n
point-below n l o e q = ltb-true o n (rw q at e)

-- ---- the four things that a turn may do

module _ (c : ℕ) (p : List Float) (j depth u : ℕ) (v : Node) where
  pub turn-cases : (P : Out → Type 0)
      → ((v.first ≡ 0 → ⊥) → P (out (absorbed c p v) (v.first + child_index c v.centre p) 0 j false))
      → (v.first ≡ 0 → v.leaf ≡ None → P (out (occupied j (absorbed c p v)) 0 0 j true))
      → ((o : ℕ) → v.first ≡ 0 → v.leaf ≡ Some o → deepest ≤ depth → P (out (absorbed c p v) 0 0 j true))
      → ((o : ℕ) → v.first ≡ 0 → v.leaf ≡ Some o → depth < deepest → P (out (parent u (absorbed c p v)) (u + child_index c v.centre p) (2 ^ c) o false))
      → P (turn_of c p j depth u v)
  unfolding turn_of absorbed
  turn-cases P inner empty deep split =
      elim (ℕ_discrete v.first 0) [
        | no z ↦ rw (ne_eqb v.first 0 z) (inner z)
        | yes z ↦ rw (eq-eqb v.first 0 z) (go v.leaf refl z)
      ]
    where
      go : (l : Option ℕ) → v.leaf ≡ l → v.first ≡ 0 → P (leaf_turn c p j depth u (absorbed c p v) l)
      go None e z = empty z e
      go (Some o) e z = elim (dec_lt depth deepest) [ yes l ↦ rw (lt-leb deepest depth l) (split o z e l) | no l ↦ rw (le-leb deepest depth (omega (arith, l))) (deep o z e (omega (arith, l))) ]

-- ---- the descent, step by step

module _ (g : ℕ) (y : List Float) (c : ℕ) (p : List Float) (j d i : ℕ) (t : Tree) (r : Out) (e : turn_at c p j d i t ≡ r) where
  pub inserted-last : r.last ≡ true → inserted (suc g) y c p j d i t ≡ levelled y c i r t
  unfolding inserted
  inserted-last l = let e' : (turn_at c p j d i t).last ≡ true = ap (λ (r : Out). r.last) e ∙ l in rw (e', inserted) (ap (λ (r : Out). levelled y c i r t) e)

  pub inserted-next : r.last ≡ false → inserted (suc g) y c p j d i t ≡ inserted g y c p j (d + 1) r.next (levelled y c i r t)
  unfolding inserted
  inserted-next l = let e' : (turn_at c p j d i t).last ≡ false = ap (λ (r : Out). r.last) e ∙ l in rw (e', inserted) (ap (λ (r : Out). inserted g y c p j (d + 1) r.next (levelled y c i r t)) e)

-- ---- between two levels

-- node k of a tree whose nodes from i on have not yet been met by the point
abbrev pub Holding : ℕ → ℕ → ℕ → ℕ → Tree → Type 0
Holding n c m i t = (k : ℕ) → k < t.used → NodeFacts n c (m + 1) t.used k (node_at t.nodes k) × (i ≤ k → (node_at t.nodes k).count ≤ m)

-- the children of a used node lie above it among the used ones
abbrev pub Rises : ℕ → Tree → Type 0
Rises c t = (k : ℕ) → k < t.used → ((node_at t.nodes k).first ≡ 0 → ⊥) → (k < (node_at t.nodes k).first) × ((node_at t.nodes k).first + 2 ^ c ≤ t.used)

-- the descent has come to node i at depth d; N nodes will be in use when it ends
pub record Ok (n c m cap N : ℕ) (y p : List Float) (d i : ℕ) (t : Tree) : Type 0 where
  pub deep : d ≤ i
  pub node : i < t.used
  pub room : t.used ≤ cap
  pub nodes : length t.nodes ≡ cap
  pub sound : Holding n c m i t
  pub total : t.used + needs_of (cap - d) y c p d i t.nodes ≡ N

-- the facts of a node in a wider tree
wider : (n c m used used' k : ℕ) (v : Node) → used ≤ used' → NodeFacts n c m used k v → NodeFacts n c m used' k v
wider n c m used used' k v l f = record { few = f.few; point = f.point; above = λ z. ((f.above z).0, omega (arith, l, f.above z)) }

fewer : (n c m m' used k : ℕ) (v : Node) → m ≤ m' → NodeFacts n c m used k v → NodeFacts n c m' used k v
fewer n c m m' used k v l f = record { few = omega (arith, l, f.few); point = f.point; above = f.above }

-- a node that has taken a point in
absorbed-facts : (n c m used k : ℕ) (p : List Float) (v : Node) → v.count ≤ m → NodeFacts n c (m + 1) used k v → NodeFacts n c (m + 1) used k (absorbed c p v)
unfolding absorbed
absorbed-facts n c m used k p v l f = record { few = omega (arith, l); point = f.point; above = f.above }

occupied-facts : (n c m used k j : ℕ) (v : Node) → j < n → NodeFacts n c m used k v → NodeFacts n c m used k (occupied j v)
occupied-facts n c m used k j v l f = record { few = f.few; point = lt-ltb j n l; above = f.above }

-- a made child
child-facts : (n c m used k : ℕ) (v : Node) (o : ℕ) (q : List Float) (b : ℕ) → o < n → 1 ≤ m → NodeFacts n c m used k (child_of c v o q b)
unfolding child_of absorbed
child-facts n c m used k v o q b l h =
    elim (ℕ_discrete b (child_index c v.centre q)) [
      | yes e ↦ rw (eq-eqb b (child_index c v.centre q) e) (record { few = h; point = lt-ltb o n l; above = λ z. absurd (z refl) })
      | no e ↦ rw (ne_eqb b (child_index c v.centre q) e) (record { few = omega arith; point = refl; above = λ z. absurd (z refl) })
    ]

-- ---- a level that only stores its node

pub level-plain : (y : List Float) (c i : ℕ) (v : Node) (k o : ℕ) (b : Bool) (t : Tree) → levelled y c i (out v k 0 o b) t ≡ tree t.used (set t.nodes i v)
level-plain y c i v k o b t = rw (add-zero t.used, filled_none c v o (point_of y c o) (set t.nodes i v))

stored-sound : (n c m i k : ℕ) (t : Tree) (v : Node) → i < length t.nodes → i < k → NodeFacts n c (m + 1) t.used i v → Holding n c m i t → Holding n c m k (tree t.used (set t.nodes i v))
stored-sound n c m i k t v li lk f s x lx =
    elim (ℕ_discrete x i) [
      | yes e ↦ rw (e, get_or-set_same t.nodes i v blank li) (f, λ z. omega (arith, z, lk))
      | no e ↦ rw (get_or-set_other t.nodes i x v blank e) ((s x lx).0, λ z. (s x lx).1 (omega (arith, z, lk)))
    ]

-- ---- the dry count, step by step

module _ (y : List Float) (c : ℕ) (p : List Float) where
  pub needs-inner : (g d i : ℕ) (ns : List Node) → ((node_at ns i).first ≡ 0 → ⊥) → needs_of (suc g) y c p d i ns ≡ needs_of g y c p (d + 1)
      ((node_at ns i).first + child_index c (node_at ns i).centre p) ns
  unfolding needs_of
  needs-inner g d i ns z = rw (ne_eqb _ _ z, needs_of)

  pub needs-leaf : (g d i : ℕ) (ns : List Node) (l : Option ℕ) → (node_at ns i).first ≡ 0 → (node_at ns i).leaf ≡ l → needs_of (suc g) y c p d i ns ≡ leaf_needs y c p d (node_at ns i) l
  unfolding needs_of
  needs-leaf g d i ns l z e = rw (eq-eqb _ _ z, needs_of) (rw e)

  -- nodes that agree from node b on are counted alike from there
  pub needs-agree : (t : Tree) (ms : List Node) (b : ℕ) → Rises c t → ((k : ℕ) → b ≤ k → k < t.used → node_at ms k ≡ node_at t.nodes k) → (g d k : ℕ) →
      b ≤ k → k < t.used → needs_of g y c p d k ms ≡ needs_of g y c p d k t.nodes
  unfolding needs_of
  needs-agree t ms b s same zero d k l u = refl
  needs-agree t ms b s same (suc g) d k l u =
      let ns = t.nodes in
      let e = same k l u in
      let w = node_at ns k in
      elim (ℕ_discrete w.first 0) [
        | yes z ↦ needs-leaf g d k ms w.leaf (ap (λ (x : Node). x.first) e ∙ z) (ap (λ (x : Node). x.leaf) e) ∙
            ap (λ (x : Node). leaf_needs y c p d x w.leaf) e ∙ sym (needs-leaf g d k ns w.leaf z refl)
        | no z ↦
            let a = s k u z in
            needs-inner g d k ms (λ x. z (sym (ap (λ (x : Node). x.first) e) ∙ x))
            ∙ ap (λ (x : Node). needs_of g y c p (d + 1) (x.first + child_index c x.centre p) ms) e
            ∙ needs-agree t ms b s same g (d + 1) (w.first + child_index c w.centre p) (omega (arith, a, l)) (omega (arith, a, child-below c w.centre p))
            ∙ sym (needs-inner g d k ns z)
      ]

  -- any two numbers of levels that reach the last used node give the same count
  pub needs-fuel : (t : Tree) → Rises c t → (g g' d k : ℕ) → k < t.used → t.used ≤ k + g → t.used ≤ k + g' → needs_of g y c p d k t.nodes ≡ needs_of g' y c p d k t.nodes
  needs-fuel t s zero g' d k u a b = absurd (omega (arith, u, a))
  needs-fuel t s (suc g) zero d k u a b = absurd (omega (arith, u, b))
  needs-fuel t s (suc g) (suc g') d k u a b =
      let ns = t.nodes in
      let w = node_at ns k in
      elim (ℕ_discrete w.first 0) [
        | yes z ↦ needs-leaf g d k ns w.leaf z refl ∙ sym (needs-leaf g' d k ns w.leaf z refl)
        | no z ↦
            let h = s k u z in
            needs-inner g d k ns z
            ∙ needs-fuel t s g g' (d + 1) (w.first + child_index c w.centre p) (omega (arith, h, child-below c w.centre p)) (omega (arith, h, a)) (omega (arith, h, b))
            ∙ sym (needs-inner g' d k ns z)
      ]

  -- a made child, the point's own: what is left of the splits
  needs-child : (g d k : ℕ) (ns : List Node) (v : Node) (o : ℕ) → d < deepest → node_at ns k ≡ child_of c v o (point_of y c o) (child_index c v.centre p)
      → splits_of (deepest - d) c v.centre v.half (point_of y c o) p * 2 ^ c ≡ 2 ^ c + needs_of (suc g) y c p (d + 1) k ns
  unfolding child_of absorbed
  needs-child g d k ns v o l e =
      let q = point_of y c o in
      let b = child_index c v.centre p in
      elim (ℕ_discrete b (child_index c v.centre q)) [
        | yes x ↦
            let e' : node_at ns k ≡ occupied o (absorbed c q (cell_of c v b)) = rw (eq-eqb b (child_index c v.centre q) x) at e in
            rw (left deepest d l, splits-same (deepest - (d + 1)) c v.centre v.half q p (sym x), suc-mul)
            (ap (λ (k : ℕ). k + 2 ^ c) (sym (needs-leaf g (d + 1) k ns (Some o) (ap (λ (x : Node). x.first) e') (ap (λ (x : Node). x.leaf) e') ∙
            ap (λ (x : Node). leaf_needs y c p (d + 1) x (Some o)) e')) ∙ plus (needs_of (suc g) y c p (d + 1) k ns) (2 ^ c))
        | no x ↦
            let e' : node_at ns k ≡ cell_of c v b = rw (ne_eqb b (child_index c v.centre q) x) at e in
            rw (
              left deepest d l,
              splits-apart (deepest - (d + 1)) c v.centre v.half q p (λ w. x (sym w)),
              one-mul,
              needs-leaf g (d + 1) k ns None (ap (λ (x : Node). x.first) e') (ap (λ (x : Node). x.leaf) e'),
            ) (sym (add-zero (2 ^ c)))
      ]
    where
      plus : (a b : ℕ) → a + b ≡ b + a
      plus a b = omega arith

-- ---- a level that splits its node

split-sound : (n c m i o : ℕ) (q : List Float) (t : Tree) (a : Node) → i < t.used → t.used + 2 ^ c ≤ length t.nodes → a.count ≤ m + 1 → o < n → 1 ≤ m → Holding n c m i t
    → (k : ℕ) → t.used ≤ k → Holding n c m k (tree (t.used + 2 ^ c) (subdivided c (parent t.used a) o q (2 ^ c) (set t.nodes i (parent t.used a))))
split-sound n c m i o q t a li lc hc ho hm s k lk x lx =
    let u = t.used in
    let w = parent u a in
    let ns = set t.nodes i w in
    elim (dec_lt x u) [
      | yes l ↦
          rw (filled-out c w o q (2 ^ c) ns x (λ g h. omega (arith, g, l)))
          (elim (ℕ_discrete x i) [
            | yes z ↦ rw (z, get_or-set_same t.nodes i w blank (omega (arith, li, lc))) (record { few = hc; point = refl; above = λ _. (li, omega arith) }, λ g. omega (arith, g, lk, li))
            | no z ↦ rw (get_or-set_other t.nodes i x w blank z) (wider n c (m + 1) u (u + 2 ^ c) x (node_at t.nodes x) (omega arith) (s x l).0, λ g. omega (arith, g, lk, l))
          ])
      | no l ↦
          let b = x - u in
          let eb : u + b ≡ x = omega (arith, l) in
          let e : node_at (subdivided c w o q (2 ^ c) ns) x ≡ child_of c w o q b = ap (node_at (subdivided c w o q (2 ^ c) ns)) (sym eb) ∙
          filled_in c w o q (2 ^ c) ns b (omega (arith, l, lx)) (omega (arith, eb, lx, lc, length-set t.nodes i w)) in
          let f = child-facts n c m (u + 2 ^ c) x w o q b ho hm in
          rw e (fewer n c m (m + 1) (u + 2 ^ c) x (child_of c w o q b) (omega arith) f, λ _. f.few)
    ]

no-splits : (s d m : ℕ) → s ≤ deepest - d → deepest ≤ d → s * m ≡ 0
no-splits s d m h l = let z : s ≡ 0 = omega (arith, h, l) in rw z (zero-mul m)

word_small : (n : ℕ) (l : Option ℕ) → point_ok n l ≡ true → n ≤ most_word → leaf_word l < suc most_word
word_small n None e h = omega arith
word_small n (Some o) e h = omega (arith, ltb-true o n e, h)

-- the point is in: the nodes in use are those foreseen, and the tree is well formed, no count having grown by more than one
pub record Ended (n c m cap N : ℕ) (t : Tree) : Type 0 where
  pub used : t.used ≡ N
  pub nodes : length t.nodes ≡ cap
  pub tree : tree_ok n (m + 1) c t ≡ true

pub record Asks (n c cap : ℕ) (y : List Float) (r : Out) : Type 0 where
  pub room : r.node.first + r.fresh ≤ cap
  pub word : leaf_word r.node.leaf < suc most_word
  pub old : r.old < most_word
  pub point : r.old < n
  pub row : r.old * c + c ≤ length y

-- ---- the descent

module _ (n c m cap N : ℕ) (y p : List Float) (j : ℕ) (hj : j < n) (hm : 1 ≤ m) (fit : N ≤ cap) where
  module _ (d i : ℕ) (t : Tree) (k : Ok n c m cap N y p d i t) where
    abbrev v : Node
    v = node_at t.nodes i

    here : d < cap
    here = omega (arith, k.deep, k.node, k.room)

    in_list : i < length t.nodes
    in_list = omega (arith, k.node, k.room, k.nodes)

    fuel : needs_of (cap - d) y c p d i t.nodes ≡ needs_of (suc (cap - (d + 1))) y c p d i t.nodes
    fuel = ap (λ (g : ℕ). needs_of g y c p d i t.nodes) (left cap d here)

    few : v.count ≤ m
    few = (k.sound i k.node).1 (omega arith)

    -- the splits of an occupied leaf are there
    split-total : (o : ℕ) → v.first ≡ 0 → v.leaf ≡ Some o → t.used + splits_of (deepest - d) c v.centre v.half (point_of y c o) p * 2 ^ c ≡ N
    split-total o z e = ap (λ (x : ℕ). t.used + x) (sym (fuel ∙ needs-leaf y c p (cap - (d + 1)) d i t.nodes (Some o) z e)) ∙ k.total

    split-fits : (o : ℕ) → v.first ≡ 0 → v.leaf ≡ Some o → d < deepest → t.used + 2 ^ c ≤ cap
    split-fits o z e l =
        let q = point_of y c o in
        elim (ℕ_discrete (child_index c v.centre q) (child_index c v.centre p)) [
          | yes x ↦ omega (arith, fit, rw (left deepest d l, splits-same (deepest - (d + 1)) c v.centre v.half q p x, suc-mul) at (split-total o z e))
          | no x ↦ omega (arith, fit, rw (left deepest d l, splits-apart (deepest - (d + 1)) c v.centre v.half q p x, one-mul) at (split-total o z e))
        ]

    below : (o : ℕ) → v.leaf ≡ Some o → o < n
    below o e = point-below n v.leaf o (k.sound i k.node).0.point e

    pub ok-next : (turn_at c p j d i t).last ≡ false → Ok n c m cap N y p (d + 1) (turn_at c p j d i t).next (level_at y c p j d i t)
    unfolding absorbed
    ok-next =
        turn-cases c p j d t.used v (λ r. r.last ≡ false → Ok n c m cap N y p (d + 1) r.next (levelled y c i r t))
        (λ z _.
        let next = v.first + child_index c v.centre p in
        let a = (k.sound i k.node).0.above z in
        let up : i < next = omega (arith, a) in
        let lu : next < t.used = omega (arith, a, child-below c v.centre p) in
        let g = cap - (d + 1) in
        subst (λ (x : Tree). Ok n c m cap N y p (d + 1) next x) (sym (level-plain y c i (absorbed c p v) next j false t))
        (record {
          deep = omega (arith, k.deep, up);
          node = lu;
          room = k.room;
          nodes = length-set t.nodes i (absorbed c p v) ∙ k.nodes;
          sound = stored-sound n c m i next t (absorbed c p v) in_list up (absorbed-facts n c m t.used i p v few (k.sound i k.node).0) k.sound;
          total = ap (λ (x : ℕ). t.used + x)
              (needs-agree y c p t (set t.nodes i (absorbed c p v)) (i + 1) (λ x lx. (k.sound x lx).0.above) (λ x l _. get_or-set_other t.nodes i x
              (absorbed c p v) blank (λ w. omega (arith, w, l))) g (d + 1) next (omega (arith, up)) lu ∙ sym (needs-inner y c p g d i t.nodes z) ∙
              sym fuel) ∙ k.total;
        }))
        (λ z e x. absurd (true≢false x))
        (λ o z e l x. absurd (true≢false x))
        (λ o z e l _.
        let u = t.used in
        let b = child_index c v.centre p in
        let q = point_of y c o in
        let w = parent u (absorbed c p v) in
        let ns = set t.nodes i w in
        let ms = subdivided c w o q (2 ^ c) ns in
        let lc = split-fits o z e l in
        let lb = child-below c v.centre p in
        let ll : length ns ≡ cap = length-set t.nodes i w ∙ k.nodes in
        let g = cap - (d + 1 + 1) in
        let f : cap - (d + 1) ≡ suc g = left cap (d + 1) (omega (arith, k.deep, k.node, lc, lb)) in
        let e' : node_at ms (u + b) ≡ child_of c w o q b = filled_in c w o q (2 ^ c) ns b lb (omega (arith, lc, lb, ll)) in
        record {
          deep = omega (arith, k.deep, k.node);
          node = omega (arith, lb);
          room = lc;
          nodes = length-filled c w o q (2 ^ c) ns ∙ ll;
          sound = split-sound n c m i o q t (absorbed c p v) k.node (omega (arith, lc, k.nodes)) (omega (arith, few)) (below o e) hm k.sound (u + b) (omega arith);
          total = rw f (assoc u (2 ^ c) (needs_of (suc g) y c p (d + 1) (u + b) ms) ∙ ap (λ (x : ℕ). u + x) (sym (needs-child y c p g d (u + b) ms w o l e')) ∙ split-total o z e);
        })
      where
        assoc : (a b c : ℕ) → a + b + c ≡ a + (b + c)
        assoc a b c = omega arith

    pub ok-last : (turn_at c p j d i t).last ≡ true → Ended n c m cap N (level_at y c p j d i t)
    ok-last =
        turn-cases c p j d t.used v (λ r. r.last ≡ true → Ended n c m cap N (levelled y c i r t))
        (λ z x. absurd (true≢false (sym x)))
        (λ z e _.
        stored-ends (occupied j (absorbed c p v)) 0 j (occupied-facts n c (m + 1) t.used i j (absorbed c p v) hj (absorbed-facts n c m t.used i p v few (k.sound i k.node).0))
        (sym (add-zero t.used) ∙ ap (λ (x : ℕ). t.used + x) (sym (fuel ∙ needs-leaf y c p (cap - (d + 1)) d i t.nodes None z e)) ∙ k.total))
        (λ o z e l _.
        stored-ends (absorbed c p v) 0 j (absorbed-facts n c m t.used i p v few (k.sound i k.node).0)
        (sym (add-zero t.used) ∙ ap (λ (x : ℕ). t.used + x)
        (sym (no-splits (splits_of (deepest - d) c v.centre v.half (point_of y c o) p) d (2 ^ c)
        (splits-le (deepest - d) c v.centre v.half (point_of y c o) p) l)) ∙ split-total o z e))
        (λ o z e l x. absurd (true≢false (sym x)))
      where
        stored-ends : (a : Node) (x o : ℕ) → NodeFacts n c (m + 1) t.used i a → t.used ≡ N → Ended n c m cap N (levelled y c i (out a x 0 o true) t)
        stored-ends a x o f e =
            subst (λ (z : Tree). Ended n c m cap N z) (sym (level-plain y c i a x o true t))
            (record {
              used = e;
              nodes = length-set t.nodes i a ∙ k.nodes;
              tree = every-all (λ z. node_ok n (m + 1) c t.used z (node_at (set t.nodes i a) z)) t.used (λ z l. node-ok n c (m + 1) t.used z
                  (node_at (set t.nodes i a) z) (stored-sound n c m i t.used t a in_list k.node f k.sound z l).0);
            })

    -- the nodes that a level makes lie within the arena
    pub ok-room : (turn_at c p j d i t).node.first + (turn_at c p j d i t).fresh ≤ cap
    unfolding absorbed
    ok-room =
        turn-cases c p j d t.used v (λ r. r.node.first + r.fresh ≤ cap)
        (λ z. omega (arith, (k.sound i k.node).0.above z, k.room))
        (λ z e. rw z (omega arith))
        (λ o z e l. rw z (omega arith))
        (λ o z e l. split-fits o z e l)

    -- what a level asks of its caller
    pub ok-asks : n * c ≤ length y → n ≤ most_word → Asks n c cap y (turn_at c p j d i t)
    unfolding absorbed
    ok-asks hy hn =
        turn-cases c p j d t.used v (λ r. r.node.first + r.fresh ≤ cap → Asks n c cap y r)
        (λ z h. record { room = h; word = word_small n v.leaf (k.sound i k.node).0.point hn; old = omega (arith, hj, hn); point = hj; row = row_in j n c (length y) hj hy })
        (λ z e h. record { room = h; word = omega (arith, hj, hn); old = omega (arith, hj, hn); point = hj; row = row_in j n c (length y) hj hy })
        (λ o z e l h. record { room = h; word = word_small n v.leaf (k.sound i k.node).0.point hn; old = omega (arith, hj, hn); point = hj; row = row_in j n c (length y) hj hy })
        (λ o z e l h. record { room = h; word = omega arith; old = omega (arith, below o e, hn); point = below o e; row = row_in o n c (length y) (below o e) hy })
        ok-room

  -- the whole descent, on the definition
  pub inserted-ends : (g d i : ℕ) (t : Tree) → g ≡ cap - d → Ok n c m cap N y p d i t → Ended n c m cap N (inserted g y c p j d i t)
  unfolding inserted
  inserted-ends zero d i t e k = absurd (none_left e k.deep k.node k.room)
    where
      none_left : {d i u : ℕ} → 0 ≡ cap - d → d ≤ i → i < u → u ≤ cap → ⊥
      none_left e a b c = omega (arith, e, a, b, c)
  inserted-ends (suc g) d i t e k = go (λ k'. inserted-ends g (d + 1) (turn_at c p j d i t).next (level_at y c p j d i t) (omega (arith, e)) k') (turn_at c p j d i t).last refl
    where
      go : (Ok n c m cap N y p (d + 1) (turn_at c p j d i t).next (level_at y c p j d i t) →
          Ended n c m cap N (inserted g y c p j (d + 1) (turn_at c p j d i t).next (level_at y c p j d i t))) → (b : Bool) → (turn_at c p j d i t).last ≡ b →
          Ended n c m cap N (elim (turn_at c p j d i t).last [
            | true ↦ level_at y c p j d i t
            | false ↦
                inserted g y c p j (d + 1) (turn_at c p j d i t).next (level_at y c p j d i t)
          ])
      go h true x = rw x (ok-last d i t k x)
      go h false x = rw x (h (ok-next d i t k x))

-- ---- where it begins

pub ok-start : (n c m : ℕ) (y p : List Float) (t : Tree) → tree_ok n m c t ≡ true → 0 < t.used → t.used ≤ length t.nodes →
    Ok n c m (length t.nodes) (t.used + needs_of (length t.nodes) y c p 0 0 t.nodes) y p 0 0 t
ok-start n c m y p t e h l =
    record {
      deep = omega arith;
      node = h;
      room = l;
      nodes = refl;
      sound = λ k lk. let f = node-facts n c m t.used k (node_at t.nodes k)
          (every-at (λ i. node_ok n m c t.used i (node_at t.nodes i)) t.used e k lk) in
          (fewer n c m (m + 1) t.used k (node_at t.nodes k) (omega arith) f, λ _. f.few);
      total = rw sub-zero;
    }

-- ---- the loop: d levels have led to node i and the tree t

pub record Sinks (n c m cap N : ℕ) (y p : List Float) (j : ℕ) (t₀ : Tree) (d i : ℕ) (t : Tree) : Type 0 where
  pub ok : Ok n c m cap N y p d i t
  pub same : inserted (cap - d) y c p j d i t ≡ inserted cap y c p j 0 0 t₀

module _ {n c m cap N : ℕ} {y p : List Float} {j : ℕ} {t₀ : Tree} {d i : ℕ} {t : Tree} (g : Sinks n c m cap N y p j t₀ d i t) where
  goes-here : d < cap
  goes-here = omega (arith, g.ok.deep, g.ok.node, g.ok.room)

  pub sinks-next : j < n → 1 ≤ m → N ≤ cap → (turn_at c p j d i t).last ≡ false → Sinks n c m cap N y p j t₀ (d + 1) (turn_at c p j d i t).next (level_at y c p j d i t)
  unfolding inserted
  sinks-next hj hm fit e = record { ok = ok-next n c m cap N y p j hj hm fit d i t g.ok e; same = rw (e, inserted) at (rw (left cap d goes-here) at g.same) }

  pub sinks-last : (turn_at c p j d i t).last ≡ true → level_at y c p j d i t ≡ inserted cap y c p j 0 0 t₀
  unfolding inserted
  sinks-last e = rw (e, inserted) at (rw (left cap d goes-here) at g.same)

-- ---- the dry descent: d levels have led to node i

pub record Dry (y : List Float) (c : ℕ) (p : List Float) (ns : List Node) (d i : ℕ) : Type 0 where
  pub deep : d ≤ i
  pub same : needs_of (length ns - d) y c p d i ns ≡ needs_of (length ns) y c p 0 0 ns

pub dry-start : (y : List Float) (c : ℕ) (p : List Float) (ns : List Node) → Dry y c p ns 0 0
dry-start y c p ns = record { deep = omega arith; same = rw sub-zero }

module _ {y : List Float} {c : ℕ} {p : List Float} {ns : List Node} {d i : ℕ} (k : Dry y c p ns d i) (h : i < length ns) where
  dry-same : needs_of (length ns) y c p 0 0 ns ≡ needs_of (suc (length ns - (d + 1))) y c p d i ns
  dry-same = sym k.same ∙ ap (λ (g : ℕ). needs_of g y c p d i ns) (left (length ns) d (omega (arith, k.deep, h)))

  pub dry-next : ((node_at ns i).first ≡ 0 → ⊥) → i < (node_at ns i).first → Dry y c p ns (d + 1) ((node_at ns i).first + child_index c (node_at ns i).centre p)
  dry-next z l = record { deep = omega (arith, k.deep, l); same = sym (needs-inner y c p (length ns - (d + 1)) d i ns z) ∙ sym dry-same }

  pub dry-leaf : (l : Option ℕ) → (node_at ns i).first ≡ 0 → (node_at ns i).leaf ≡ l → leaf_needs y c p d (node_at ns i) l ≡ needs_of (length ns) y c p 0 0 ns
  dry-leaf l z e = sym (dry-same ∙ needs-leaf y c p (length ns - (d + 1)) d i ns l z e)

-- a used node's facts
pub tree-facts : (n c m : ℕ) (t : Tree) → tree_ok n m c t ≡ true → (i : ℕ) → i < t.used → NodeFacts n c m t.used i (node_at t.nodes i)
tree-facts n c m t e i l = node-facts n c m t.used i (node_at t.nodes i) (every-at (λ k. node_ok n m c t.used k (node_at t.nodes k)) t.used e i l)

pub tree-point : (n c m : ℕ) (t : Tree) → tree_ok n m c t ≡ true → (i o : ℕ) → i < t.used → (node_at t.nodes i).leaf ≡ Some o → o < n
tree-point n c m t e i o l q = point-below n (node_at t.nodes i).leaf o (tree-facts n c m t e i l).point q

-- a point needs at most `deepest` splits
pub needs-few : (g : ℕ) (y : List Float) (c : ℕ) (p : List Float) (d i : ℕ) (ns : List Node) → needs_of g y c p d i ns ≤ deepest * 2 ^ c
unfolding needs_of
needs-few zero y c p d i ns = omega arith
needs-few (suc g) y c p d i ns =
    elim (ℕ_discrete (node_at ns i).first 0) [
      | no z ↦ rw (needs-inner y c p g d i ns z) (needs-few g y c p (d + 1) ((node_at ns i).first + child_index c (node_at ns i).centre p) ns)
      | yes z ↦ rw (needs-leaf y c p g d i ns (node_at ns i).leaf z refl) (leaf-few (node_at ns i).leaf)
    ]
  where
    leaf-few : (l : Option ℕ) → leaf_needs y c p d (node_at ns i) l ≤ deepest * 2 ^ c
    leaf-few None = omega arith
    leaf-few (Some o) = mul-le-mul_right (2 ^ c) (le_trans (splits-le (deepest - d) c (node_at ns i).centre (node_at ns i).half (point_of y c o) p) (few-left d))
      where
        few-left : (d : ℕ) → deepest - d ≤ deepest
        few-left d = omega arith

pub few-nodes : (s c : ℕ) → s ≤ deepest → c ≤ 3 → s * 2 ^ c ≤ deepest * 8
few-nodes s c h l = le_trans (mul-le-mul_left s (pow_mono {i = c} {j = 3} l)) (eight s h)
  where
    eight : (s : ℕ) → s ≤ deepest → s * 8 ≤ deepest * 8
    eight s h = omega (arith, h)

-- the child that a split node sends a point to lies above it among the used nodes
pub next-in : (n c m : ℕ) (t : Tree) (p : List Float) → tree_ok n m c t ≡ true → (i : ℕ) → i < t.used → ((node_at t.nodes i).first ≡ 0 → ⊥)
    → (i < (node_at t.nodes i).first) × ((node_at t.nodes i).first + child_index c (node_at t.nodes i).centre p < t.used)
next-in n c m t p e i l z = let a = (tree-facts n c m t e i l).above z in (a.0, omega (arith, a, child-below c (node_at t.nodes i).centre p))

-- ---- the loop, for the code

pub sinks-start : (n c m : ℕ) (y p : List Float) (j : ℕ) (t : Tree) (more : ℕ) → more ≡ needs_of (length t.nodes) y c p 0 0 t.nodes →
    tree_ok n m c t ≡ true → 0 < t.used → t.used ≤ length t.nodes
    → Sinks n c m (length t.nodes) (t.used + more) y p j t 0 0 t
sinks-start n c m y p j t more e ok h l = rw e (record { ok = ok-start n c m y p t ok h l; same = rw sub-zero })

module _ {n c m cap N : ℕ} {y p : List Float} {j : ℕ} {t₀ : Tree} {d i : ℕ} {t : Tree} (g : Sinks n c m cap N y p j t₀ d i t) (hj : j < n) (hm : 1 ≤ m) (fit : N ≤ cap) where
  pub sinks_on : (t' : Tree) (k : ℕ) (b : Bool) → t' ≡ level_at y c p j d i t → k ≡ (turn_at c p j d i t).next → b ≡ (turn_at c p j d i t).last → b ≡ false → Sinks n c m cap N y p j t₀ (d + 1) k t'
  sinks_on t' k b e f h x = rw (e, f) (sinks-next g hj hm fit (sym h ∙ x))

  pub sinks_in : (t' : Tree) (b : Bool) → t' ≡ level_at y c p j d i t → b ≡ (turn_at c p j d i t).last → b ≡ true → t' ≡ inserted cap y c p j 0 0 t₀
  sinks_in t' b e h x = e ∙ sinks-last g (sym h ∙ x)

  pub sinks-asks : n * c ≤ length y → n ≤ most_word → Asks n c cap y (turn_at c p j d i t)
  sinks-asks = ok-asks n c m cap N y p j hj hm fit d i t g.ok

  pub sinks-few : (node_at t.nodes i).count ≤ m
  sinks-few = (g.ok.sound i g.ok.node).1 (omega arith)

  pub sinks-up : d < cap
  sinks-up = goes-here g
