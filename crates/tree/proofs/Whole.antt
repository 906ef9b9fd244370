-- Theorems on the definition of insertion: it keeps the tree well formed, uses the nodes that the dry count says, at most `deepest` splits a point, and so never lacks
-- nodes in an arena of `enough_nodes`. Assumes nothing.
use mathlib.Core.Path.{◌≡◌, refl, sym, ap, subst, ◌∙◌}
use mathlib.Core.List.{List, ◌∷◌}
use mathlib.Core.Bool.{true, false, true≢false}
use Prim.Native.Nat.{ℕ, zero, suc, ◌+◌, ◌-◌, ◌*◌, ◌^◌, ◌<◌, ◌≤◌}
use native.Mathlib.Omega.{arith}
use native.Mathlib.Nat.{not-suc-le-zero, le_trans, mul-le-mul_left, mul-le-mul_right, suc-mul, mul_comm}
use lib.Pow.{pow_mono}
use native.Mathlib.Decide.{dec_lt}
use lib.ListN.{length}
use lib.Ieee.{Float}
use borrow.Author.Tests.{lt-ltb, le-ltb, ltb-true}
use Rattle.laws.specs.Domain.{deepest, most_frames}
use Rattle.tree_node.specs.declared.Node.{Node}
use Rattle.std.specs.declared.option.Option.{Option}
use Rattle.std.specs.declared.option.Option.TheVariants.{None, Some}
use Rattle.laws.specs.Loops.{loop, every}
use Rattle.laws.proofs.Bools.{by_bool}
use Rattle.laws.proofs.Loops.{loop-last}
use Rattle.laws.proofs.Every.{every-at, every-all}
use Rattle.tree_node.specs.Node.{point_of, fresh_of}
use Rattle.tree_turns.specs.Turns.{absorbed, occupied, turn_of}
use Rattle.tree_node.specs.Arena.{node_at, nameable}
use Rattle.tree_node.proofs.Told.{nameable-most, nameable-both}
use Rattle.tree.specs.Insert.{Tree, tree, subdivided, inserted, needs_of, Insertion, insertion, insert_of, tree_ok, built, rooted, enough_nodes}
use Rattle.tree_contents.specs.Contents.{point_ok, node_ok}
use Rattle.tree.proofs.Inserting.{node-facts, node-ok, ok-start, Ended, inserted-ends, needs-few}

abbrev pub needed : List Float → ℕ → ℕ → Tree → ℕ
needed y c j t = needs_of (length t.nodes) y c (point_of y c j) 0 0 t.nodes

point-next : (n n' : ℕ) (l : Option ℕ) → n ≤ n' → point_ok n l ≡ true → point_ok n' l ≡ true
point-next n n' None h e = refl
point-next n n' (Some o) h e = lt-ltb o n' (omega (arith, h, ltb-true o n e))

-- larger bounds on points and counts
pub looser : (n n' c m m' : ℕ) (t : Tree) → n ≤ n' → m ≤ m' → tree_ok n m c t ≡ true → tree_ok n' m' c t ≡ true
looser n n' c m m' t h l e =
    every-all (λ i. node_ok n' m' c t.used i (node_at t.nodes i)) t.used
    λ k lk.
    let f = node-facts n c m t.used k (node_at t.nodes k) (every-at (λ i. node_ok n m c t.used i (node_at t.nodes i)) t.used e k lk) in
    node-ok n' c m' t.used k (node_at t.nodes k) (record { few = omega (arith, l, f.few); point = point-next n n' (node_at t.nodes k).leaf h f.point; above = f.above })

module _ (y : List Float) (c j : ℕ) (t : Tree) where
  -- the refusal, exactly when the nodes that the point needs are not there or cannot be named; nothing changes
  pub refused : nameable (length t.nodes) < t.used + needed y c j t → insert_of y c j t ≡ insertion true t
  unfolding insert_of
  refused l = rw (lt-ltb _ _ l)

  pub taken : t.used + needed y c j t ≤ nameable (length t.nodes) → insert_of y c j t ≡ insertion false (inserted (length t.nodes) y c (point_of y c j) j 0 0 t)
  unfolding insert_of
  taken l = rw (le-ltb _ _ l)

  pub taken-ends : (n m : ℕ) → j < n → 1 ≤ m → tree_ok n m c t ≡ true → 0 < t.used → t.used ≤ length t.nodes → t.used + needed y c j t ≤ nameable (length t.nodes)
      → Ended n c m (length t.nodes) (t.used + needed y c j t) (insert_of y c j t).tree
  taken-ends n m hj hm ok h l fit = rw (taken fit)
      (inserted-ends n c m (length t.nodes) (t.used + needed y c j t) y (point_of y c j) j hj hm (omega (arith, fit, nameable-most (length t.nodes)))
      (length t.nodes) 0 0 t (zero-less (length t.nodes)) (ok-start n c m y (point_of y c j) t ok h l))
    where
      zero-less : (g : ℕ) → g ≡ g - 0
      zero-less g = omega arith

  -- insertion keeps a well-formed tree well formed, and no count grows by more than one
  pub insert-keeps : (n m : ℕ) → j < n → 1 ≤ m → tree_ok n m c t ≡ true → 0 < t.used → t.used ≤ length t.nodes → tree_ok n (m + 1) c (insert_of y c j t).tree ≡ true
  insert-keeps n m hj hm ok h l =
      elim (dec_lt (nameable (length t.nodes)) (t.used + needed y c j t)) [
        | yes x ↦ rw (refused x) (looser n n c m (m + 1) t (omega arith) (omega arith) ok)
        | no x ↦ (taken-ends n m hj hm ok h l (omega (arith, x))).tree
      ]

  -- what is not refused has its nodes
  pub taken-fits : (insert_of y c j t).full ≡ false → t.used + needed y c j t ≤ nameable (length t.nodes)
  taken-fits e =
      elim (dec_lt (nameable (length t.nodes)) (t.used + needed y c j t)) [
        | yes x ↦ absurd (true≢false (ap (λ (r : Insertion). r.full) (sym (refused x)) ∙ e))
        | no x ↦ omega (arith, x)
      ]

  -- the dry count is what the insertion uses
  pub insert-uses : (n m : ℕ) → j < n → 1 ≤ m → tree_ok n m c t ≡ true → 0 < t.used → t.used ≤ length t.nodes → (insert_of y c j t).full ≡ false →
      (insert_of y c j t).tree.used ≡ t.used + needed y c j t
  insert-uses n m hj hm ok h l e = (taken-ends n m hj hm ok h l (taken-fits e)).used

  -- `deepest` splits are enough
  pub needed-few : needed y c j t ≤ deepest * 2 ^ c
  needed-few = needs-few (length t.nodes) y c (point_of y c j) 0 0 t.nodes

-- ---- the first point

pub first-in : (y : List Float) (c : ℕ) (z h : List Float) (rest : List Node) →
    insert_of y c 0 (rooted z h rest) ≡ insertion false (tree 1 (occupied 0 (absorbed c (point_of y c 0) (fresh_of z h)) ∷ rest))
unfolding insert_of inserted needs_of turn_of subdivided loop absorbed
first-in y c z h rest = rw (le-ltb (nameable (suc (length rest))) 1 (nameable-both 1 (suc (length rest)) (omega arith) (omega arith)))

first-ok : (n c : ℕ) (p z h : List Float) (rest : List Node) → 0 < n → tree_ok n 1 c (tree 1 (occupied 0 (absorbed c p (fresh_of z h)) ∷ rest)) ≡ true
unfolding every node_ok absorbed
first-ok n c p z h rest l = rw (lt-ltb 0 n l)

-- ---- all points

-- j points are in: none was refused, so many nodes are used at most, and no count is above j
pub record In (n c cap j : ℕ) (r : Insertion) : Type 0 where
  pub some : 1 ≤ j
  pub there : r.full ≡ false
  pub nodes : length r.tree.nodes ≡ cap
  pub used : 0 < r.tree.used
  pub few : r.tree.used ≤ 1 + (j - 1) * (deepest * 2 ^ c)
  pub tree : tree_ok n j c r.tree ≡ true

rows_next : (j n b : ℕ) → 1 ≤ j → j < n → (j - 1) * b + b ≤ (n - 1) * b
rows_next j n b h l = subst (λ (x : ℕ). x ≤ (n - 1) * b) (suc-mul (j - 1) b) (mul-le-mul_right b (below j n h l))
  where
    below : (j n : ℕ) → 1 ≤ j → j < n → suc (j - 1) ≤ n - 1
    below j n h l = omega (arith, h, l)

-- one point more, where its nodes are there
fit-in : (y : List Float) (n c cap j : ℕ) (r : Insertion) → r.tree.used + needed y c j r.tree ≤ nameable (length r.tree.nodes) → j < n →
    In n c cap j r → In n c cap (j + 1) (insert_of y c j r.tree)
fit-in y n c cap j r fit lj i =
    let t = r.tree in
    let b = deepest * 2 ^ c in
    let q = needed-few y c j t in
    let e = taken-ends y c j t n j lj i.some i.tree i.used (omega (arith, fit, nameable-most (length t.nodes))) fit in
    let rows : (j - 1) * b + b ≡ (j + 1 - 1) * b = sym (suc-mul (j - 1) b) ∙ ap (λ (x : ℕ). x * b) (one_up j i.some) in
    record {
      some = omega arith;
      there = ap (λ (x : Insertion). x.full) (taken y c j t fit);
      nodes = e.nodes ∙
          i.nodes;
      used = omega (arith, e.used, i.used);
      few = omega (arith, e.used, q, i.few, rows);
      tree = e.tree;
    }
  where
    one_up : (j : ℕ) → 1 ≤ j → suc (j - 1) ≡ j + 1 - 1
    one_up j h = omega (arith, h)

-- there is room for it where there is room for `deepest` splits of each further point
pub room_in : (y : List Float) (n c cap j : ℕ) (r : Insertion) → 1 + (n - 1) * (deepest * 2 ^ c) ≤ nameable cap → j < n → In n c cap j r →
    r.tree.used + needed y c j r.tree ≤ nameable (length r.tree.nodes)
room_in y n c cap j r room lj i =
    let q = needed-few y c j r.tree in
    let up : (j - 1) * (deepest * 2 ^ c) + deepest * 2 ^ c ≤ (n - 1) * (deepest * 2 ^ c) = rows_next j n (deepest * 2 ^ c) i.some lj in
    let e : nameable (length r.tree.nodes) ≡ nameable cap = ap nameable i.nodes in
    omega (arith, q, up, room, i.few, e)

module _ (y : List Float) (c : ℕ) (t : Tree) where
  -- one point more, where none was refused
  pub built-next : (k : ℕ) → (built y c k t).full ≡ false → built y c (suc k) t ≡ insert_of y c k (built y c k t).tree
  unfolding built loop
  built-next k e = loop-last (λ j r. elim r.full [ true ↦ r | false ↦ insert_of y c j r.tree ]) k (insertion false t) ∙ rw e

  pub built-full : (k : ℕ) → (built y c k t).full ≡ true → (built y c (suc k) t).full ≡ true
  unfolding built loop
  built-full k e = rw (loop-last (λ j r. elim r.full [ true ↦ r | false ↦ insert_of y c j r.tree ]) k (insertion false t)) (rw e e)

module _ (y : List Float) (n c : ℕ) (z h : List Float) (rest : List Node) where
  one_in : 0 < n → In n c (suc (length rest)) 1 (built y c 1 (rooted z h rest))
  unfolding built loop
  one_in l = rw (first-in y c z h rest) (record { some = omega arith; there = refl; nodes = refl; used = omega arith; few = omega arith; tree = first-ok n c (point_of y c 0) z h rest l })

  -- k points went in and none was refused: so many nodes are used at most, and no count is above k
  pub in_all : (k : ℕ) → 1 ≤ k → k ≤ n → (built y c k (rooted z h rest)).full ≡ false → In n c (suc (length rest)) k (built y c k (rooted z h rest))
  in_all zero hk ln e = absurd (not-suc-le-zero hk)
  in_all (suc zero) hk ln e = one_in ln
  in_all (suc (suc k)) hk ln e = by_bool (In n c (suc (length rest)) (suc (suc k)) (built y c (suc (suc k)) (rooted z h rest))) (built y c (suc k) (rooted z h rest)).full
      (λ f. absurd (true≢false (sym (built-full y c (rooted z h rest) (suc k) f) ∙ e)))
      (λ f. let b = built y c (suc k) (rooted z h rest) in
      let q : (insert_of y c (suc k) b.tree).full ≡ false = rw (built-next y c (rooted z h rest) (suc k) f) at e in
      rw (built-next y c (rooted z h rest) (suc k) f)
      (subst (λ (x : ℕ). In n c (suc (length rest)) x (insert_of y c (suc k) b.tree)) (up k)
      (fit-in y n c (suc (length rest)) (suc k) b (taken-fits y c (suc k) b.tree q) (omega (arith, ln))
      (in_all (suc k) (omega arith) (omega (arith, ln)) f))))
    where
      up : (k : ℕ) → suc k + 1 ≡ suc (suc k)
      up k = omega arith

  -- with room for `deepest` splits of each further point, all of them with numbers that are words, the refusal never comes
  pub never-full : (k : ℕ) → k ≤ n → enough_nodes c n ≤ nameable (suc (length rest)) → (built y c k (rooted z h rest)).full ≡ false
  unfolding built loop
  never-full zero ln room = refl
  never-full (suc zero) ln room = (one_in ln).there
  never-full (suc (suc k)) ln room =
      let b = built y c (suc k) (rooted z h rest) in
      let f = never-full (suc k) (omega (arith, ln)) room in
      let i = in_all (suc k) (omega arith) (omega (arith, ln)) f in
      let wide : 1 + (n - 1) * (deepest * 2 ^ c) ≤ nameable (suc (length rest)) = rw (mul_comm (n - 1) (deepest * 2 ^ c)) room in
      rw (built-next y c (rooted z h rest) (suc k) f, taken y c (suc k) b.tree (room_in y n c (suc (length rest)) (suc k) b wide (omega (arith, ln)) i))

  -- so all of them are in
  pub all_in : (k : ℕ) → 1 ≤ k → k ≤ n → enough_nodes c n ≤ nameable (suc (length rest)) → In n c (suc (length rest)) k (built y c k (rooted z h rest))
  all_in k hk ln room = in_all k hk ln (never-full k ln room)

-- in the domain those nodes are few enough for words
pub enough-named : (c n nodes : ℕ) → c ≤ 3 → n ≤ most_frames → enough_nodes c n ≤ nodes → enough_nodes c n ≤ nameable nodes
enough-named c n nodes hc hn h = nameable-both (enough_nodes c n) nodes h (omega (arith, le_trans (mul-le-mul_right (n - 1) (mul-le-mul_left deepest (pow_mono {i = c} {j = 3} hc))) (few n hn)))
  where
    few : (n : ℕ) → n ≤ most_frames → deepest * 2 ^ 3 * (n - 1) ≤ deepest * 8 * most_frames
    few n hn = omega (arith, hn)
