-- A longer arena changes nothing that insertion and walk do: what lies past the nodes in use is neither read nor written where the nodes are there. Assumes nothing.
use mathlib.Core.Path.{◌≡◌, refl, sym, ap, subst, ◌∙◌}
use mathlib.Core.List.{List, ◌++◌}
use mathlib.Core.Bool.{true, false, true≢false}
use Prim.Native.Nat.{ℕ, zero, suc, ◌+◌, ◌<◌, ◌≤◌}
use native.Mathlib.Omega.{arith}
use native.Mathlib.Nat.{add-zero}
use lib.ListN.{length, set, length-set, length-append, get_or-append}
use lib.Seq.{set-append_left}
use lib.Ieee.{Float}
use Rattle.laws.specs.Loops.{loop}
use Rattle.laws.proofs.Bools.{by_bool}
use Rattle.laws.proofs.Every.{every-at, every-all}
use Rattle.tree_node.specs.declared.Node.{Node}
use Rattle.tree_turns.specs.declared.Out.{Out}
use Rattle.tree_node.specs.Node.{point_of}
use Rattle.tree_turns.specs.Turns.{child_of, turn_of}
use Rattle.tree_node.specs.Arena.{node_at, blank}
use Rattle.tree_node.proofs.Told.{nameable-most, nameable-longer}
use Rattle.tree.specs.Insert.{Tree, tree, subdivided, turn_at, levelled, level_at, inserted, Insertion, insertion, insert_of, tree_ok, built}
use Rattle.tree_contents.specs.Contents.{node_ok}
use Rattle.tree_bounds.specs.Bounds.{box_of}
use Rattle.tree.specs.Box.{boxed}
use Rattle.tree_walk.specs.Repel.{repelled}
use Rattle.tree_walk.proofs.Longer.{repelled-longer as walked-longer}
use Rattle.tree.proofs.Grow.{make_step}
use Rattle.tree.proofs.Inserting.{Ok, Rises, needs-agree, needs-fuel, ok-start, ok-room, ok-next, inserted-last, inserted-next, tree-facts}
use Rattle.tree.proofs.Whole.{needed, taken, taken-fits, taken-ends, built-next, built-full}
use Rattle.tree.proofs.Opens.{blocks-in}

-- a well-formed tree within its arena
pub record Fits (n c m : ℕ) (t : Tree) : Type 0 where
  pub some : 0 < t.used
  pub within : t.used ≤ length t.nodes
  pub sound : tree_ok n m c t ≡ true

fits-rise : (n c m : ℕ) (t : Tree) → Fits n c m t → Rises c t
fits-rise n c m t f k l = (tree-facts n c m t f.sound k l).above

-- an insertion that is not refused leaves such a tree, with counts of at most one more
pub insert-fits : (y : List Float) (n c m j : ℕ) (t : Tree) → j < n → 1 ≤ m → Fits n c m t → (insert_of y c j t).full ≡ false → Fits n c (m + 1) (insert_of y c j t).tree
insert-fits y n c m j t hj hm f e =
    let fit = taken-fits y c j t e in
    let r = taken-ends y c j t n m hj hm f.sound f.some f.within fit in
    record { some = omega (arith, r.used, f.some); within = omega (arith, r.used, r.nodes, fit, nameable-most (length t.nodes)); sound = r.tree }

module _ (more : List Node) where
  -- the same nodes in use, in an arena with further nodes behind it
  abbrev pub extended : Tree → Tree
  extended t = tree t.used (t.nodes ++ more)

  node-same : (ns : List Node) (i : ℕ) → i < length ns → node_at (ns ++ more) i ≡ node_at ns i
  node-same ns i h = get_or-append ns more blank i h

  pub longer-ok : (n c m : ℕ) (t : Tree) → t.used ≤ length t.nodes → tree_ok n m c t ≡ true → tree_ok n m c (extended t) ≡ true
  longer-ok n c m t h e =
      every-all (λ i. node_ok n m c t.used i (node_at (t.nodes ++ more) i)) t.used
      λ i l. rw (node-same t.nodes i (omega (arith, l, h))) (every-at (λ i. node_ok n m c t.used i (node_at t.nodes i)) t.used e i l)

  -- ---- the box

  pub box-longer : (y : List Float) (n c : ℕ) (ns : List Node) → 0 < length ns → boxed y n c (ns ++ more) ≡ extended (boxed y n c ns)
  box-longer y n c ns h = ap (tree 1) (set-append_left ns more 0 (box_of y n c) h)

  -- ---- the dry count

  pub needs-longer : (y : List Float) (n c m j : ℕ) (t : Tree) → Fits n c m t → needed y c j (extended t) ≡ needed y c j t
  needs-longer y n c m j t f =
      let ns = t.nodes in
      let p = point_of y c j in
      let rise = fits-rise n c m t f in
      needs-agree y c p t (ns ++ more) 0 rise (λ k _ l. node-same ns k (omega (arith, l, f.within))) (length (ns ++ more)) 0 0 (omega arith) f.some
      ∙ needs-fuel y c p t rise (length (ns ++ more)) (length ns) 0 0 f.some (omega (arith, f.within, length-append ns more)) (omega (arith, f.within))

  -- ---- one level

  put-longer : (u : ℕ) (f : ℕ → Node) (n k : ℕ) (ns : List Node) → u + k + n ≤ length ns → loop (make_step u f) n k (ns ++ more) ≡ loop (make_step u f) n k ns ++ more
  unfolding loop
  put-longer u f zero k ns h = refl
  put-longer u f (suc n) k ns h = rw (set-append_left ns more (u + k) (f k) (omega (arith, h))) (put-longer u f n (k + 1) (set ns (u + k) (f k)) (omega (arith, h, length-set ns (u + k) (f k))))

  filled-longer : (c : ℕ) (v : Node) (o : ℕ) (q : List Float) (n : ℕ) (ns : List Node) → v.first + n ≤ length ns → subdivided c v o q n (ns ++ more) ≡ subdivided c v o q n ns ++ more
  unfolding subdivided
  filled-longer c v o q n ns h = put-longer v.first (child_of c v o q) n 0 ns (omega (arith, h))

  level-longer : (y : List Float) (c i : ℕ) (r : Out) (t : Tree) → i < length t.nodes → r.node.first + r.fresh ≤ length t.nodes → levelled y c i r (extended t) ≡ extended (levelled y c i r t)
  level-longer y c i r t h l =
      rw (set-append_left t.nodes more i r.node h)
      (ap (tree (t.used + r.fresh)) (filled-longer c r.node r.old (point_of y c r.old) r.fresh (set t.nodes i r.node) (omega (arith, l, length-set t.nodes i r.node))))

  -- ---- the descent

  module _ (n c m cap N : ℕ) (y p : List Float) (j : ℕ) (hj : j < n) (hm : 1 ≤ m) (fit : N ≤ cap) where
    -- in both arenas it ends before the levels allowed do
    inserted-longer : (g g' d i : ℕ) (t : Tree) → Ok n c m cap N y p d i t → cap ≤ d + g → cap ≤ d + g' → inserted g' y c p j d i (extended t) ≡ extended (inserted g y c p j d i t)
    inserted-longer zero g' d i t k a b = absurd (omega (arith, k.deep, k.node, k.room, a))
    inserted-longer (suc g) zero d i t k a b = absurd (omega (arith, k.deep, k.node, k.room, b))
    inserted-longer (suc g) (suc g') d i t k a b =
        let r = turn_at c p j d i t in
        let l : i < length t.nodes = omega (arith, k.node, k.room, k.nodes) in
        let same : turn_at c p j d i (extended t) ≡ r = ap (λ (v : Node). turn_of c p j d t.used v) (node-same t.nodes i l) in
        let level = level-longer y c i r t l (omega (arith, ok-room n c m cap N y p j hj hm fit d i t k, k.nodes)) in
        by_bool (inserted (suc g') y c p j d i (extended t) ≡ extended (inserted (suc g) y c p j d i t)) r.last
        (λ x. inserted-last g' y c p j d i (extended t) r same x ∙ level ∙ ap extended (sym (inserted-last g y c p j d i t r refl x)))
        (λ x.
        inserted-next g' y c p j d i (extended t) r same x
        ∙ ap (λ (z : Tree). inserted g' y c p j (d + 1) r.next z) level
        ∙ inserted-longer g g' (d + 1) r.next (level_at y c p j d i t) (ok-next n c m cap N y p j hj hm fit d i t k x) (omega (arith, a)) (omega (arith, b))
        ∙ ap extended (sym (inserted-next g y c p j d i t r refl x)))

  -- an insertion that is not refused does the same in the longer arena
  pub insert-longer : (y : List Float) (n c m j : ℕ) (t : Tree) → j < n → 1 ≤ m → Fits n c m t → (insert_of y c j t).full ≡ false →
      insert_of y c j (extended t) ≡ insertion false (extended (insert_of y c j t).tree)
  insert-longer y n c m j t hj hm f e =
      let ns = t.nodes in
      let p = point_of y c j in
      let fit = taken-fits y c j t e in
      let ll = length-append ns more in
      taken y c j (extended t) (omega (arith, fit, needs-longer y n c m j t f, nameable-longer (length ns) (length (ns ++ more)) (omega (arith, ll))))
      ∙ ap (insertion false) (inserted-longer n c m (length ns) (t.used + needed y c j t) y p j hj hm (omega (arith, fit, nameable-most (length ns)))
      (length ns) (length (ns ++ more)) 0 0 t (ok-start n c m y p t f.sound f.some f.within) (omega arith) (omega (arith, ll))
      ∙ ap (λ (x : Insertion). extended x.tree) (sym (taken y c j t fit)))

  -- ---- all points: what was built without a refusal, the longer arena holds too

  pub built-longer : (y : List Float) (n c m : ℕ) (t : Tree) → 1 ≤ m → Fits n c m t → (k : ℕ) → k ≤ n → (built y c k t).full ≡ false
      → Fits n c (m + k) (built y c k t).tree × (built y c k (extended t) ≡ insertion false (extended (built y c k t).tree))
  unfolding built loop
  built-longer y n c m t hm f zero h e = (rw (add-zero m) f, refl)
  built-longer y n c m t hm f (suc k) h e = by_bool (Fits n c (m + suc k) (built y c (suc k) t).tree ×
      (built y c (suc k) (extended t) ≡ insertion false (extended (built y c (suc k) t).tree))) (built y c k t).full
      (λ x. absurd (true≢false (sym (built-full y c t k x) ∙ e)))
      (λ x.
      let b = (built y c k t).tree in
      let i = built-longer y n c m t hm f k (omega (arith, h)) x in
      let step = built-next y c t k x in
      let q : (insert_of y c k b).full ≡ false = rw step at e in
      let step' = built-next y c (extended t) k (ap (λ (z : Insertion). z.full) i.1) in
      rw step (
        subst (λ (a : ℕ). Fits n c a (insert_of y c k b).tree) (up m k) (insert-fits y n c (m + k) k b (omega (arith, h)) (omega (arith, hm)) i.0 q),
        step' ∙ ap (λ (z : Insertion). insert_of y c k z.tree) i.1 ∙ insert-longer y n c (m + k) k b (omega (arith, h)) (omega (arith, hm)) i.0 q,
      ))
    where
      up : (m k : ℕ) → m + k + 1 ≡ m + suc k
      up m k = omega arith

  -- ---- the walk

  -- repulsion looks at no node past those in use
  pub repels-on-longer : (n c m : ℕ) (t : Tree) → Fits n c m t → (q : ℕ) (p : List Float) (theta2 : Float) →
      repelled t.used c q p theta2 (t.nodes ++ more) ≡ repelled t.used c q p theta2 t.nodes
  repels-on-longer n c m t f q p theta2 = walked-longer t.nodes more t.used c f.within (blocks-in n c m t f.sound) q p theta2 f.some
