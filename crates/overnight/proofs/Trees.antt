-- Two arenas as long as each other that have the same nodes in use: a point is refused in both or in neither, its insertion leaves the same nodes in use, and
-- the walk over them gives the same. What lies past the nodes in use is written before it is read. Assumes nothing.
use mathlib.Core.Path.{◌≡◌, refl, sym, ap, subst, ◌∙◌}
use mathlib.Core.List.{List}
use mathlib.Core.Bool.{true}
use Prim.Native.Nat.{ℕ, zero, suc, ◌+◌, ◌-◌, ◌*◌, ◌^◌, ◌<◌, ◌≤◌}
use native.Mathlib.Omega.{arith}
use native.Mathlib.Decide.{ℕ_discrete, dec_lt}
use lib.ListN.{length, set, take, drop, length-set, take-append-drop}
use lib.Seq.{get_or-set_same, get_or-set_other, get_or-take, length-take-le, ext_get_or}
use lib.Ieee.{Float}
use borrow.Author.Tests.{ltb-true}
use Rattle.laws.specs.Domain.{deepest}
use Rattle.laws.proofs.Bools.{by_bool}
use Rattle.tree_node.specs.declared.Node.{Node}
use Rattle.std.specs.declared.option.Option.{Option}
use Rattle.std.specs.declared.option.Option.TheVariants.{None, Some}
use Rattle.tree_node.specs.Node.{point_of}
use Rattle.tree_node.specs.Arena.{node_at, blank, nameable}
use Rattle.tree_node.proofs.Told.{nameable-most}
use Rattle.tree_children.specs.Children.{child_index}
use Rattle.tree_children.proofs.Below.{child-below}
use Rattle.tree_turns.specs.declared.Out.{Out}
use Rattle.tree_turns.specs.Turns.{absorbed, turn_of}
use Rattle.tree.specs.Insert.{Tree, tree, subdivided, turn_at, levelled, level_at, inserted, splits_of, leaf_needs, needs_of, insert_of, tree_ok}
use Rattle.tree.proofs.Grow.{length-filled, filled-out, filled_in}
use Rattle.tree.proofs.Inserting.{Ok, turn-cases, inserted-last, inserted-next, needs-inner, needs-leaf, ok-start, ok-room, ok-next, tree-facts, tree-point}
use Rattle.tree.proofs.Whole.{needed, refused, taken}
use Rattle.tree.proofs.Opens.{blocks-in}
use Rattle.tree.proofs.Longer.{Fits}
use Rattle.tree_walk.specs.Repel.{Blocks, repelled}
use Rattle.tree_walk.proofs.Longer.{repelled-longer}
use Rattle.overnight.specs.Across.{SameTo, SameNodes}
use Rattle.overnight.proofs.Points.{point-same}

-- two trees with the same nodes in use, in arenas of one length
pub record Twin (t t' : Tree) : Type 0 where
  pub nodes : SameNodes t.used t'.used t.nodes t'.nodes
  pub long : length t.nodes ≡ length t'.nodes

-- ---- the walk

-- it looks at no node past those in use: those alone, without the rest of the arena, give the same
front-repels : (c : ℕ) (t : Tree) → 0 < t.used → t.used ≤ length t.nodes → Blocks t.used c t.nodes → (q : ℕ) (p : List Float) (theta2 : Float) →
    repelled t.used c q p theta2 t.nodes ≡ repelled t.used c q p theta2 (take t.used t.nodes)
front-repels c t some within ok q p theta2 =
    let u = t.used in
    let ns = t.nodes in
    let front = take u ns in
    ap (repelled u c q p theta2) (sym (take-append-drop u ns))
    ∙ repelled-longer front (drop u ns) u c (omega (arith, length-take-le u ns within)) (λ i l. rw (get_or-take u ns i blank l) (ok i l)) q p theta2 some

pub repelled-same : (n c m : ℕ) (t t' : Tree) → Twin t t' → Fits n c m t → (q : ℕ) (p : List Float) (theta2 : Float) →
    repelled t.used c q p theta2 t.nodes ≡ repelled t'.used c q p theta2 t'.nodes
repelled-same n c m t t' w f q p theta2 =
    let u = t.used in
    let ns = t.nodes in
    let ns' = t'.nodes in
    let ok = blocks-in n c m t f.sound in
    let h : u ≤ length ns' = omega (arith, f.within, w.long) in
    let e : take u ns ≡ take u ns' = ext_get_or blank (take u ns) (take u ns') (length-take-le u ns f.within ∙ sym (length-take-le u ns' h))
    (λ i l. let k : i < u = omega (arith, l, length-take-le u ns f.within) in get_or-take u ns i blank k ∙ (w.nodes.each i k ∙ sym (get_or-take u ns' i blank k))) in
    front-repels c t f.some f.within ok q p theta2
    ∙ ap (repelled u c q p theta2) e
    ∙ sym (front-repels c (tree u ns') f.some h (λ i l. rw (sym (w.nodes.each i l)) (ok i l)) q p theta2)
    ∙ ap (λ (x : ℕ). repelled x c q p theta2 ns') w.nodes.number

-- ---- insertion, by positions that hold the same n points

module _ (n c : ℕ) (y y' : List Float) (same : SameTo (n * c) y y') where
  leaf-needs-same : (p : List Float) (d : ℕ) (v : Node) (l : Option ℕ) → ((o : ℕ) → l ≡ Some o → o < n) → leaf_needs y c p d v l ≡ leaf_needs y' c p d v l
  leaf-needs-same p d v None h = refl
  leaf-needs-same p d v (Some o) h = ap (λ (q : List Float). splits_of (deepest - d) c v.centre v.half q p * 2 ^ c) (point-same n c y y' same o (h o refl))

  -- the dry count
  module _ (m : ℕ) (p : List Float) (t : Tree) (ms : List Node) (sound : tree_ok n m c t ≡ true) (each : (k : ℕ) → k < t.used → node_at t.nodes k ≡ node_at ms k) where
    needs-same : (g d k : ℕ) → k < t.used → needs_of g y c p d k t.nodes ≡ needs_of g y' c p d k ms
    unfolding needs_of
    needs-same zero d k l = refl
    needs-same (suc g) d k l =
        let ns = t.nodes in
        let w = node_at ns k in
        let e = sym (each k l) in
        elim (ℕ_discrete w.first 0) [
          | yes z ↦
              needs-leaf y c p g d k ns w.leaf z refl
              ∙ leaf-needs-same p d w w.leaf (λ o q. tree-point n c m t sound k o l q)
              ∙ sym (needs-leaf y' c p g d k ms w.leaf (ap (λ (x : Node). x.first) e ∙ z) (ap (λ (x : Node). x.leaf) e) ∙ ap (λ (x : Node). leaf_needs y' c p d x w.leaf) e)
          | no z ↦
              let a = (tree-facts n c m t sound k l).above z in
              needs-inner y c p g d k ns z
              ∙ needs-same g (d + 1) (w.first + child_index c w.centre p) (omega (arith, a, child-below c w.centre p))
              ∙ sym (needs-inner y' c p g d k ms (λ x. z (sym (ap (λ (x : Node). x.first) e) ∙ x)) ∙ ap (λ (x : Node). needs_of g y' c p (d + 1) (x.first + child_index c x.centre p) ms) e)
        ]

  -- ---- one level

  -- node i stored, and children made behind the nodes in use
  level-same : (i : ℕ) (r : Out) (t t' : Tree) → Twin t t' → i < t.used → t.used + r.fresh ≤ length t.nodes → r.old < n → ((r.fresh ≡ 0 → ⊥) →
      r.node.first ≡ t.used) → Twin (levelled y c i r t) (levelled y' c i r t')
  level-same i r t t' w hi room ho at-end =
      let v = r.node in
      let o = r.old in
      let q = point_of y c o in
      let q' = point_of y' c o in
      let qs : q ≡ q' = point-same n c y y' same o ho in
      let ns = set t.nodes i v in
      let ns' = set t'.nodes i v in
      let f = r.fresh in
      let long : length ns ≡ length ns' = length-set t.nodes i v ∙ w.long ∙ sym (length-set t'.nodes i v) in
      let ll : length ns ≡ length t.nodes = length-set t.nodes i v in
      record {
        nodes = record {
          number = ap (λ (u : ℕ). u + f) w.nodes.number;
          each = λ k l. rw (sym qs) (elim (dec_lt k t.used) [
            | yes a ↦
                filled-out c v o q f ns k (λ b d. before k a b d)
                ∙ (elim (ℕ_discrete k i) [
                  | yes x ↦ rw x (get_or-set_same t.nodes i v blank (omega (arith, hi, room)) ∙ sym (get_or-set_same t'.nodes i v blank (omega (arith, hi, room, w.long))))
                  | no x ↦ get_or-set_other t.nodes i k v blank x ∙ w.nodes.each k a ∙ sym (get_or-set_other t'.nodes i k v blank x)
                ])
                ∙ sym (filled-out c v o q f ns' k (λ b d. before k a b d))
            | no a ↦
                let z : v.first ≡ t.used = at-end (λ x. omega (arith, x, l, a)) in
                let b = k - t.used in
                let e : v.first + b ≡ k = omega (arith, z, a) in
                subst (λ (x : ℕ). node_at (subdivided c v o q f ns) x ≡ node_at (subdivided c v o q f ns') x) e
                (filled_in c v o q f ns b (omega (arith, l, a)) (omega (arith, e, l, room, ll)) ∙ sym (filled_in c v o q f ns' b (omega (arith, l, a)) (omega (arith, e, l, room, ll, long))))
          ]);
        };
        long = length-filled c v o q f ns ∙ long ∙ sym (length-filled c v o q' f ns');
      }
    where
      before : (k : ℕ) → k < t.used → r.node.first ≤ k → k < r.node.first + r.fresh → ⊥
      before k a b d = let z = at-end (λ x. omega (arith, x, b, d)) in omega (arith, z, a, b)

  -- ---- the descent

  module _ (m cap N : ℕ) (p : List Float) (j : ℕ) (hj : j < n) (hm : 1 ≤ m) (fit : N ≤ cap) where
    -- what a turn makes lies behind the nodes in use, and the point that goes down is one of the n
    turn-fits : (d i : ℕ) (t : Tree) → Ok n c m cap N y p d i t → ((turn_at c p j d i t).old < n) × (((turn_at c p j d i t).fresh ≡ 0 → ⊥) →
        (turn_at c p j d i t).node.first ≡ t.used) × (t.used + (turn_at c p j d i t).fresh ≤ cap)
    unfolding absorbed
    turn-fits d i t k =
        let r = turn_at c p j d i t in
        let room = ok-room n c m cap N y p j hj hm fit d i t k in
        turn-cases c p j d t.used (node_at t.nodes i) (λ r. r.node.first + r.fresh ≤ cap → (r.old < n) × ((r.fresh ≡ 0 → ⊥) → r.node.first ≡ t.used) × (t.used + r.fresh ≤ cap))
        (λ z h. (hj, (λ x. absurd (x refl)), omega (arith, k.room)))
        (λ z e h. (hj, (λ x. absurd (x refl)), omega (arith, k.room)))
        (λ o z e l h. (hj, (λ x. absurd (x refl)), omega (arith, k.room)))
        (λ o z e l h. (point-is o e, (λ x. refl), h))
        room
      where
        point-is : (o : ℕ) → (node_at t.nodes i).leaf ≡ Some o → o < n
        point-is o e = ltb-true o n (rw e at (k.sound i k.node).0.point)

    inserted_same : (g d i : ℕ) (t t' : Tree) → Ok n c m cap N y p d i t → Twin t t' → Twin (inserted g y c p j d i t) (inserted g y' c p j d i t')
    unfolding inserted
    inserted_same zero d i t t' k w = w
    inserted_same (suc g) d i t t' k w =
        let r = turn_at c p j d i t in
        let e : turn_at c p j d i t' ≡ r = ap (λ (u : ℕ). turn_of c p j d u (node_at t'.nodes i)) (sym w.nodes.number) ∙ ap (turn_of c p j d t.used) (sym (w.nodes.each i k.node)) in
        let f = turn-fits d i t k in
        let level = level-same i r t t' w k.node (omega (arith, f, k.nodes)) f.0 f.1 in
        by_bool (Twin (inserted (suc g) y c p j d i t) (inserted (suc g) y' c p j d i t')) r.last
        (λ x. rw (inserted-last g y c p j d i t r refl x, inserted-last g y' c p j d i t' r e x) level)
        (λ x. rw (inserted-next g y c p j d i t r refl x, inserted-next g y' c p j d i t' r e x)
        (inserted_same g (d + 1) r.next (level_at y c p j d i t) (levelled y' c i r t') (ok-next n c m cap N y p j hj hm fit d i t k x) level))

  -- ---- an insertion

  pub insert-same : (m j : ℕ) (t t' : Tree) → j < n → 1 ≤ m → Fits n c m t → Twin t t' → ((insert_of y c j t).full ≡ (insert_of y' c j t').full) × Twin
      (insert_of y c j t).tree (insert_of y' c j t').tree
  insert-same m j t t' hj hm f w =
      let p = point_of y c j in
      let ps : p ≡ point_of y' c j = point-same n c y y' same j hj in
      let q : needed y c j t ≡ needed y' c j t' = needs-same m p t t'.nodes f.sound w.nodes.each (length t.nodes) 0 0 f.some ∙ rw (w.long, ps) in
      let u = w.nodes.number in
      let l = w.long in
      let c' : nameable (length t.nodes) ≡ nameable (length t'.nodes) = ap nameable l in
      elim (dec_lt (nameable (length t.nodes)) (t.used + needed y c j t)) [
        | yes x ↦
            let x' : nameable (length t'.nodes) < t'.used + needed y' c j t' = omega (arith, x, u, q, c') in
            rw (refused y c j t x, refused y' c j t' x') (refl, w)
        | no x ↦
            let h : t.used + needed y c j t ≤ nameable (length t.nodes) = omega (arith, x) in
            let h' : t'.used + needed y' c j t' ≤ nameable (length t'.nodes) = omega (arith, h, u, q, c') in
            let i = inserted_same m (length t.nodes) (t.used + needed y c j t) p j hj hm (omega (arith, h, nameable-most (length t.nodes)))
            (length t.nodes) 0 0 t t' (ok-start n c m y p t f.sound f.some f.within) w in
            rw (taken y c j t h, taken y' c j t' h') (
              refl,
              subst (λ (x : Tree). Twin (inserted (length t.nodes) y c p j 0 0 t) x)
                  (ap (λ (g : ℕ). inserted g y' c p j 0 0 t') l ∙ ap (λ (z : List Float). inserted (length t'.nodes) y' c z j 0 0 t') ps) i,
            )
      ]
