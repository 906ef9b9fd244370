-- The loop of the walk, with a stack of any number of levels. What is still to be walked is a list of cells: those from where the walk stands up to the end of
-- their block, then the rest of each block on the stack, the highest level first.
-- The result is the walks from these, one after the other, from what has been gathered. A turn takes the first of them off, or puts its children in its place.
--     pending          what is still to be walked
--     Going            the invariant.       going_start, going-turn, going_next, going-deep, going_done       its laws
-- Assumes nothing.
use mathlib.Core.Path.{◌≡◌, refl, sym, subst, ap, ◌∙◌}
use mathlib.Core.Logic.{◌⊎◌, inl, inr, ⊎_elim}
use mathlib.Core.List.{List, [], ◌∷◌, ◌++◌}
use Prim.Native.Nat.{ℕ, zero, suc, ◌+◌, ◌-◌, ◌*◌, ◌^◌, ◌<◌, ◌≤◌}
use native.Mathlib.Omega.{arith}
use native.Mathlib.Decide.{ℕ_discrete, dec_lt}
use lib.ListN.{length, set, length-set}
use lib.Seq.{get_or-set_same, get_or-set_other}
use borrow.Author.Tests.{eq-eqb, ne_eqb, lt-ltb, le-ltb}
use Rattle.laws.specs.Area.{num}
use Rattle.laws.proofs.Numbers.{left, none}
use Rattle.tree_node.specs.declared.Node.{Node}
use Rattle.tree_node.specs.declared.Cell.{Cell}
use Rattle.tree_node.specs.Node.{Axes}
use Rattle.tree_node.specs.Arena.{cell_at, node_of, nodes_of, node_at}
use Rattle.tree_node.proofs.Axes.{few-children}
use Rattle.tree_bodies.specs.declared.Acc.{Acc}
use Rattle.tree_bodies.specs.Bodies.{kind_of, body_of}
use Rattle.tree_walk.specs.declared.Eye.{Eye}
use Rattle.tree_walk.specs.declared.Spot.{Spot}
use Rattle.tree_walk.specs.Repel.{walk_of, Blocks}
use Rattle.tree_walk.specs.Turn.{fresh_spot, past_cell, opened_of, pushed_of, seen_as, turned_of, stacked_of}
use Rattle.tree_walk.proofs.Fuel.{block, whole-skip, whole-body, whole_open}
use Rattle.tree_walk.proofs.Walked.{numbers_from, visits_of, load, load-app, load-block, weight-pos, Inside, inside-app, inside-range, node-at, over-cells}
use Rattle.tree_walk.proofs.Walked.{walks, walks-app, walks-range, cell-first, some-children, just-added}

-- no cells are left to a walk of their own
abbrev None : Spot → Type 0
None r = r.deep < r.stop → ⊥

none-zero : 0 < 0 → ⊥
none-zero h = omega arith

module _ (levels : ℕ) where
  -- what the first l levels of the stack hold, the highest first
  abbrev pub frames : List ℕ → ℕ → List ℕ
  frames st zero = []
  frames st (suc l) = numbers_from (num st l) (num st (l + levels) - num st l) ++ frames st l

  -- what is still to be walked, and what is left of it without the first
  abbrev pub pending : List ℕ → Spot → List ℕ
  pending st s = numbers_from s.at (s.end - s.at) ++ frames st s.level

  abbrev pub rest_on_stack : List ℕ → Spot → List ℕ
  rest_on_stack st s = numbers_from (s.at + 1) (s.end - (s.at + 1)) ++ frames st s.level

  pub pending-first : (st : List ℕ) (s : Spot) → s.at < s.end → pending st s ≡ s.at ∷ rest_on_stack st s
  pending-first st s l = ap (λ (n : ℕ). numbers_from s.at n ++ frames st s.level) (left s.end s.at l)

  -- a stack that is written at a level keeps the levels below
  frames-set : (st : List ℕ) (l x y k : ℕ) → k ≤ l → l < levels → frames (set (set st l x) (l + levels) y) k ≡ frames st k
  frames-set st l x y zero h m = refl
  frames-set st l x y (suc k) h m =
      let low : num (set (set st l x) (l + levels) y) k ≡ num st k = get_or-set_other (set st l x) (l + levels) k y 0 (λ q. omega (arith, q)) ∙ get_or-set_other st l k x 0 (λ q. omega (arith, q)) in
      let high : num (set (set st l x) (l + levels) y) (k + levels) ≡ num st (k + levels) = get_or-set_other (set st l x) (l + levels) (k + levels) y 0
      (λ q. omega (arith, q)) ∙ get_or-set_other st l (k + levels) x 0 (λ q. omega (arith, q)) in
      rw (low, high) (ap (λ (r : List ℕ). numbers_from (num st k) (num st (k + levels) - num st k) ++ r) (frames-set st l x y k (omega arith) m))

  -- ---- the stack is in order: no level is empty, and where the walk is at the end of a block, none is left

  pub record SoundStack (st : List ℕ) (s : Spot) : Type 0 where
    pub size : length st ≡ 2 * levels
    pub room : s.level ≤ levels
    pub live : (s.at < s.end) ⊎ (s.level ≡ 0)
    pub full : (l : ℕ) → l < s.level → num st l < num st (l + levels)

  -- at r, with the stack st, the cells xs are to be walked, from a
  pub record Stands (st : List ℕ) (xs : List ℕ) (a : Acc) (r : Spot) : Type 0 where
    pub sound : SoundStack st r
    pub ahead : pending st r ≡ xs
    pub gives : r.acc ≡ a

  -- ---- past a cell

  onward-cases : (P : Spot → Type 0) (st : List ℕ) (s : Spot) (a : Acc)
      → (s.at + 1 < s.end → P (fresh_spot a (s.at + 1) s.end s.level))
      → (s.end ≤ s.at + 1 → s.level ≡ 0 → P (fresh_spot a (s.at + 1) s.end 0))
      → (s.end ≤ s.at + 1 → (s.level ≡ 0 → ⊥) → P (fresh_spot a (num st (s.level - 1)) (num st (s.level - 1 + levels)) (s.level - 1)))
      → P (past_cell levels st s a)
  unfolding past_cell
  onward-cases P st s a f g h =
      elim (dec_lt (s.at + 1) s.end) [
        | yes l ↦ rw (lt-ltb (s.at + 1) s.end l, past_cell) (f l)
        | no m ↦ elim (ℕ_discrete s.level 0) [
          | yes e ↦ rw (le-ltb (s.at + 1) s.end (omega arith), past_cell) (rw (eq-eqb s.level 0 e) (g (omega arith) e))
          | no n ↦ rw (le-ltb (s.at + 1) s.end (omega arith), past_cell) (rw (ne_eqb s.level 0 n) (h (omega arith) n))
        ]
      ]

  rest_over : (st : List ℕ) (s : Spot) → s.end ≤ s.at + 1 → rest_on_stack st s ≡ frames st s.level
  rest_over st s m = ap (λ (n : ℕ). numbers_from (s.at + 1) n ++ frames st s.level) (none s.end (s.at + 1) m)

  frames-top : (st : List ℕ) (l : ℕ) → (l ≡ 0 → ⊥) → frames st l ≡ numbers_from (num st (l - 1)) (num st (l - 1 + levels) - num st (l - 1)) ++ frames st (l - 1)
  frames-top st zero n = absurd (n refl)
  frames-top st (suc l) n = let e : suc l - 1 ≡ l = omega arith in rw e

  pub onward-stands : (st : List ℕ) (s : Spot) (a : Acc) → SoundStack st s → s.at < s.end → Stands st (rest_on_stack st s) a (past_cell levels st s a) × None (past_cell levels st s a)
  onward-stands st s a k l =
      onward-cases (λ r. Stands st (rest_on_stack st s) a r × None r) st s a
      (λ m. (record { sound = record { size = k.size; room = k.room; live = inl m; full = k.full }; ahead = refl; gives = refl }, none-zero))
      (λ m e. (
        record {
          sound = record { size = k.size; room = omega arith; live = inr refl; full = λ j h. absurd (none_below j h) };
          ahead = ap
              (λ (n : ℕ). numbers_from (s.at + 1) n ++ []) (none s.end (s.at + 1) m) ∙ sym (rest_over st s m ∙ ap (frames st) e);
          gives = refl;
        },
        none-zero,
      ))
      (λ m n. (
        record {
          sound = record {
            size = k.size;
            room = omega (arith, k.room);
            live = inl
                (k.full (s.level - 1) (omega arith));
            full = λ j h. k.full j (omega arith);
          };
          ahead = sym
              (rest_over st s m ∙ frames-top st s.level n);
          gives = refl;
        },
        none-zero,
      ))
    where
      none_below : (j : ℕ) → j < 0 → ⊥
      none_below j h = omega arith

  -- ---- to the children of a cell, from f to e

  opened-cases : (P : Spot → List ℕ → Type 0) (st : List ℕ) (s : Spot) (f e : ℕ)
      → (s.at + 1 < s.end → s.level < levels → P (fresh_spot s.acc f e (s.level + 1)) (set (set st s.level (s.at + 1)) (s.level + levels) s.end))
      → (s.at + 1 < s.end → levels ≤ s.level → P (record { acc = s.acc; at = s.at + 1; end = s.end; level = s.level; deep = f; stop = e }) st)
      → (s.end ≤ s.at + 1 → P (fresh_spot s.acc f e s.level) st)
      → P (opened_of levels s f e) (pushed_of levels st s)
  unfolding opened_of pushed_of
  opened-cases P st s f e g h i =
      elim (dec_lt (s.at + 1) s.end) [
        | yes l ↦ elim (dec_lt s.level levels) [
          | yes m ↦ rw (lt-ltb (s.at + 1) s.end l, opened_of, pushed_of) (rw (lt-ltb s.level levels m) (g l m))
          | no n ↦ rw (lt-ltb (s.at + 1) s.end l, opened_of, pushed_of) (rw (le-ltb s.level levels (omega arith)) (h l (omega arith)))
        ]
        | no m ↦ rw (le-ltb (s.at + 1) s.end (omega arith), opened_of, pushed_of) (i (omega arith))
      ]

  -- the children come first; or the stack has no room, and they are left to a walk of their own
  abbrev pub Opens : List ℕ → Spot → ℕ → ℕ → Spot → List ℕ → Type 0
  Opens st s f e r zs = (Stands zs (numbers_from f (e - f) ++ rest_on_stack st s) s.acc r × None r) ⊎ ((r.deep ≡ f) × (r.stop ≡ e) × Stands zs (rest_on_stack st s) s.acc r)

  abbrev over : List ℕ → Spot → List ℕ
  over st s = set (set st s.level (s.at + 1)) (s.level + levels) s.end

  over_below : (st : List ℕ) (s : Spot) (j : ℕ) → j < s.level → s.level < levels → num st j < num st (j + levels) → num (over st s) j < num (over st s) (j + levels)
  over_below st s j h n f =
      let low : num (over st s) j ≡ num st j = get_or-set_other (set st s.level (s.at + 1)) (s.level + levels) j s.end 0 (λ q. omega (arith, q)) ∙
      get_or-set_other st s.level j (s.at + 1) 0 (λ q. omega (arith, q)) in
      let high : num (over st s) (j + levels) ≡ num st (j + levels) = get_or-set_other (set st s.level (s.at + 1)) (s.level + levels) (j + levels) s.end 0
      (λ q. omega (arith, q)) ∙ get_or-set_other st s.level (j + levels) (s.at + 1) 0 (λ q. omega (arith, q)) in
      rw (low, high) f

  top : (l m : ℕ) → m ≡ suc l → (zs : List ℕ) → frames zs m ≡ numbers_from (num zs l) (num zs (l + levels) - num zs l) ++ frames zs l
  top l m q zs = rw q

  pub opened-stands : (st : List ℕ) (s : Spot) (f e : ℕ) → SoundStack st s → s.at < s.end → f < e → Opens st s f e (opened_of levels s f e) (pushed_of levels st s)
  opened-stands st s f e k l fe =
      opened-cases (Opens st s f e) st s f e
      (λ m n. let low : num (over st s) s.level ≡ s.at + 1 = get_or-set_other (set st s.level (s.at + 1)) (s.level + levels) s.level s.end 0
      (λ q. omega (arith, q)) ∙ get_or-set_same st s.level (s.at + 1) 0 (omega (arith, k.size)) in
      let high : num (over st s) (s.level + levels) ≡ s.end = get_or-set_same (set st s.level (s.at + 1)) (s.level + levels) s.end 0
      (omega (arith, k.size, length-set st s.level (s.at + 1))) in
      inl (
        record {
          sound = record {
            size = length-set (set st s.level (s.at + 1)) (s.level + levels) s.end ∙ length-set st s.level (s.at + 1) ∙ k.size;
            room = omega arith;
            live = inl fe;
            full = λ j h. elim (ℕ_discrete j s.level) [
              | yes q ↦ rw (q, low, high) m
              | no q ↦ over_below st s j (omega arith) n (k.full j (omega arith))
            ];
          };
          ahead = ap (λ (r : List ℕ). numbers_from f (e - f) ++ r)
              (top s.level (s.level + 1) (omega arith) (over st s) ∙
              rw (low, high) (ap (λ (r : List ℕ). numbers_from (s.at + 1) (s.end - (s.at + 1)) ++ r)
              (frames-set st s.level (s.at + 1) s.end s.level (omega arith) n)));
          gives = refl;
        },
        none-zero,
      ))
      (λ m n. inr (refl, refl, record { sound = record { size = k.size; room = k.room; live = inl m; full = k.full }; ahead = refl; gives = refl }))
      (λ m. inl (
        record {
          sound = record { size = k.size; room = k.room; live = inl fe; full = k.full };
          ahead = ap (λ (r : List ℕ). numbers_from f
              (e - f) ++ r) (sym (rest_over st s m));
          gives = refl;
        },
        none-zero,
      ))

  -- ---- the invariant

  module _ (used : ℕ) (y : Eye) (cs : List Cell) where
    -- the loop that began at cell `low`, and whose result is to be `goal`, is at s, with st on its stack
    pub record Going (low : ℕ) (goal : Acc) (st : List ℕ) (s : Spot) : Type 0 where
      pub sound : SoundStack st s
      pub inside : Inside low used (pending st s)
      pub same : walks used y cs (pending st s) s.acc ≡ goal

    pub going_start : (low to : ℕ) (a : Acc) (st : List ℕ) → length st ≡ 2 * levels → to ≤ used → Going low (over-cells used y cs low (to - low) a) st (fresh_spot a low to 0)
    going_start low to a st e h = record {
      sound = record { size = e; room = omega arith; live = inr refl; full = λ j m. absurd (none_below j m) };
      inside = inside-app low used (numbers_from low (to - low)) [] part tt;
      same = walks-app used y cs (numbers_from low (to - low)) [] a ∙ walks-range used y cs low (to - low) a;
    }
      where
        none_below : (j : ℕ) → j < 0 → ⊥
        none_below j h = omega arith

        part : Inside low used (numbers_from low (to - low))
        part = elim (dec_lt low to) [ yes l ↦ inside-range low used (to - low) low (omega arith) (omega arith) | no m ↦ rw (none to low (omega arith)) tt ]

    pub going_done : {low : ℕ} {goal : Acc} {st : List ℕ} {s : Spot} → Going low goal st s → s.end ≤ s.at → s.acc ≡ goal
    going_done {st} {s} g m =
        let z : s.level ≡ 0 = ⊎_elim (λ l. omega (arith, l)) (λ e. e) g.sound.live in
        let e : pending st s ≡ [] = ap (λ (n : ℕ). numbers_from s.at n ++ frames st s.level) (none s.end s.at m) ∙ ap (frames st) z in
        sym (ap (λ (xs : List ℕ). walks used y cs xs s.acc) e) ∙ g.same

  -- ---- a turn

  turned-cases : (P : Spot → List ℕ → Type 0) (y : Eye) (v : Cell) (st : List ℕ) (s : Spot)
      → (seen_as y v ≡ 0 → P (past_cell levels st s s.acc) st)
      → (seen_as y v ≡ 1 → P (past_cell levels st s (body_of y.c y.p (node_of v) s.acc)) st)
      → ((seen_as y v ≡ 0 → ⊥) → (seen_as y v ≡ 1 → ⊥) → P (opened_of levels s v.first (v.first + 2 ^ y.c)) (pushed_of levels st s))
      → P (turned_of levels y v st s) (stacked_of levels y v st s)
  unfolding turned_of stacked_of
  turned-cases P y v st s f g h =
      elim (ℕ_discrete (seen_as y v) 0) [
        | yes e ↦ rw (eq-eqb (seen_as y v) 0 e, turned_of, stacked_of) (f e)
        | no m ↦ elim (ℕ_discrete (seen_as y v) 1) [
          | yes e ↦ rw (ne_eqb (seen_as y v) 0 m, turned_of, stacked_of) (rw (eq-eqb (seen_as y v) 1 e) (g e))
          | no n ↦ rw (ne_eqb (seen_as y v) 0 m, turned_of, stacked_of) (rw (ne_eqb (seen_as y v) 1 n) (h m n))
        ]
      ]

  module _ (used : ℕ) (y : Eye) (cs : List Cell) where
    -- the turn has led to t, with zs on the stack: the loop goes on there
    abbrev pub Goes : ℕ → Acc → List ℕ → Spot → Spot → List ℕ → Type 0
    Goes low goal st s t zs = Going used y cs low goal zs t × (load used (pending zs t) < load used (pending st s))

    -- or the stack has no room for the children: once they are walked, the loop goes on with what that gave
    pub record Deep (low : ℕ) (goal : Acc) (st : List ℕ) (s : Spot) (t : Spot) (zs : List ℕ) : Type 0 where
      pub some : t.deep < t.stop
      pub further : low < t.deep
      pub within : t.stop ≤ used
      pub onto : (a : Acc) → a ≡ over-cells used y cs t.deep (t.stop - t.deep) t.acc → Goes low goal st s (fresh_spot a t.at t.end t.level) zs

    abbrev pub Next : ℕ → Acc → List ℕ → Spot → Spot → List ℕ → Type 0
    Next low goal st s t zs = (None t × Goes low goal st s t zs) ⊎ Deep low goal st s t zs

    from-stands : (st : List ℕ) (s : Spot) {low : ℕ} {goal : Acc} {zs xs : List ℕ} {r : Spot} {a : Acc} → Stands zs xs a r → s.at < s.end →
        Inside low used xs → walks used y cs xs a ≡ goal → load used xs < visits_of used s.at + load used (rest_on_stack st s) → Goes low goal st s r zs
    from-stands st s {low} {goal} {zs} {xs} {r} w l i e h = (
      record {
        sound = w.sound;
        inside = subst (Inside low used) (sym w.ahead) i;
        same = ap (λ (ys : List ℕ). walks used y cs ys r.acc) w.ahead ∙ ap (walks used y cs xs) w.gives ∙ e;
      },
      rw (w.ahead, pending-first st s l) h,
    )

    module _ (ok : Blocks used y.c (nodes_of cs)) (ax : Axes y.c) where
      pub going-turn : {low : ℕ} {goal : Acc} {st : List ℕ} {s : Spot} → Going used y cs low goal st s → s.at < s.end →
          Next low goal st s (turned_of levels y (cell_at cs s.at) st s) (stacked_of levels y (cell_at cs s.at) st s)
      going-turn {low} {goal} {st} {s} g l =
          let i : ((low ≤ s.at) × (s.at < used)) × Inside low used (rest_on_stack st s) = subst (Inside low used) (pending-first st s l) g.inside in
          let e : walks used y cs (rest_on_stack st s) (walk_of used y.c y.q y.p y.theta2 (nodes_of cs) s.at s.acc) ≡ goal = sym
          (ap (λ (xs : List ℕ). walks used y cs xs s.acc) (pending-first st s l)) ∙ g.same in
          let k : kind_of y.c y.q y.p y.theta2 (node_at (nodes_of cs) s.at) ≡ seen_as y (cell_at cs s.at) = ap (kind_of y.c y.q y.p y.theta2) (node-at cs s.at) in
          let u : load used (rest_on_stack st s) < visits_of used s.at + load used (rest_on_stack st s) = omega (arith, weight-pos used s.at) in
          turned-cases (Next low goal st s) y (cell_at cs s.at) st s
          (λ z. let w : Stands st (rest_on_stack st s) s.acc (past_cell levels st s s.acc) × None (past_cell levels st s s.acc) = onward-stands st s s.acc g.sound l in
          inl (
            w.1,
            from-stands st s w.0 l i.1
                (ap (walks used y cs (rest_on_stack st s))
                (sym (whole-skip y.c y.q y.p y.theta2 (nodes_of cs) used ok s.at s.acc i.0.1 (k ∙ z))) ∙ e) u,
          ))
          (λ z. let w : Stands st (rest_on_stack st s) (body_of y.c y.p (node_of (cell_at cs s.at)) s.acc)
          (past_cell levels st s (body_of y.c y.p (node_of (cell_at cs s.at)) s.acc)) ×
          None (past_cell levels st s (body_of y.c y.p (node_of (cell_at cs s.at)) s.acc)) = onward-stands st s
          (body_of y.c y.p (node_of (cell_at cs s.at)) s.acc) g.sound l in
          inl (
            w.1,
            from-stands st s w.0 l i.1
                (ap (walks used y cs (rest_on_stack st s)) (ap (λ (n : Node). body_of y.c y.p n s.acc) (sym (node-at cs s.at)) ∙
                sym (whole-body y.c y.q y.p y.theta2 (nodes_of cs) used ok s.at s.acc i.0.1 (k ∙ z))) ∙ e) u,
          ))
          (λ z₀ z₁. let b : (s.at < (cell_at cs s.at).first) × ((cell_at cs s.at).first + 2 ^ y.c ≤ used) = subst (λ (f : ℕ). (s.at < f) ×
          (f + 2 ^ y.c ≤ used)) (cell-first cs s.at)
          (block y.c y.q y.p y.theta2 (nodes_of cs) used ok s.at i.0.1 (λ x. z₀ (sym k ∙ x)) (λ x. z₁ (sym k ∙ x))) in
          let o : walk_of used y.c y.q y.p y.theta2 (nodes_of cs) s.at s.acc ≡ over-cells used y cs (cell_at cs s.at).first (2 ^ y.c)
          s.acc = whole_open y.c y.q y.p y.theta2 (nodes_of cs) used ok s.at s.acc i.0.1 (λ x. z₀ (sym k ∙ x)) (λ x. z₁
          (sym k ∙ x)) ∙ ap (λ (f : ℕ). over-cells used y cs f (2 ^ y.c) s.acc) (cell-first cs s.at) in
          let d : (cell_at cs s.at).first + 2 ^ y.c - (cell_at cs s.at).first ≡ 2 ^ y.c = just-added (cell_at cs s.at).first (2 ^ y.c) in
          ⊎_elim
          (λ w. inl (
            w.1,
            from-stands st s w.0 l (rw d (inside-app low used (numbers_from (cell_at cs s.at).first (2 ^ y.c)) (rest_on_stack st s)
                (inside-range low used (2 ^ y.c) (cell_at cs s.at).first (omega (arith, b, i.0)) b.1) i.1))
                (rw d (walks-app used y cs (numbers_from (cell_at cs s.at).first (2 ^ y.c)) (rest_on_stack st s) s.acc ∙
                ap (walks used y cs (rest_on_stack st s)) (walks-range used y cs (cell_at cs s.at).first (2 ^ y.c) s.acc ∙ sym o) ∙ e))
                (rw d (rw (load-app used (numbers_from (cell_at cs s.at).first (2 ^ y.c)) (rest_on_stack st s))
                (omega (arith, load-block used s.at (cell_at cs s.at).first (2 ^ y.c) b.0 (omega (arith, b.1)) (few-children y.c ax))))),
          ))
          (λ w. inr (record {
            some = rw (w.0, w.1) (omega (arith, some-children y.c));
            further = rw w.0 (omega (arith, b.0, i.0));
            within = rw w.1 b.1;
            onto = λ a q. from-stands st s (record {
              sound = record { size = w.2.sound.size; room = w.2.sound.room; live = w.2.sound.live; full = w.2.sound.full };
              ahead = w.2.ahead;
              gives = refl;
            }) l i.1
                (ap (walks used y cs (rest_on_stack st s)) (q ∙ rw (w.0, w.1, w.2.gives, d) (sym o)) ∙ e) u;
          }))
          (opened-stands st s (cell_at cs s.at).first ((cell_at cs s.at).first + 2 ^ y.c) g.sound l (omega (arith, some-children y.c))))

      -- what a turn asks
      pub going-first : {low : ℕ} {goal : Acc} {st : List ℕ} {s : Spot} → Going used y cs low goal st s → s.at < s.end → (low ≤ s.at) × (s.at < used)
      going-first {low} {goal} {st} {s} g l = let i : ((low ≤ s.at) × (s.at < used)) × Inside low used (rest_on_stack st s) = subst (Inside low used) (pending-first st s l) g.inside in i.0

      going-both : {low : ℕ} {goal : Acc} {st zs : List ℕ} {s r : Spot} → Going used y cs low goal st s → s.at < s.end →
          r ≡ turned_of levels y (cell_at cs s.at) st s → zs ≡ stacked_of levels y (cell_at cs s.at) st s → Next low goal st s r zs
      going-both {low} {goal} {st} {zs} {s} {r} g l e f = subst (λ (t : Spot). Next low goal st s t zs) (sym e)
          (subst (Next low goal st s (turned_of levels y (cell_at cs s.at) st s)) (sym f) (going-turn g l))

      -- the turn has led to r, with zs on the stack
      pub going_next : {low : ℕ} {goal : Acc} {st zs : List ℕ} {s r : Spot} → Going used y cs low goal st s → s.at < s.end →
          r ≡ turned_of levels y (cell_at cs s.at) st s → zs ≡ stacked_of levels y (cell_at cs s.at) st s → (r.deep < r.stop → ⊥) → Goes low goal st s r zs
      going_next g l e f n = ⊎_elim (λ w. w.1) (λ d. absurd (n d.some)) (going-both g l e f)

      pub going-deep : {low : ℕ} {goal : Acc} {st zs : List ℕ} {s r : Spot} → Going used y cs low goal st s → s.at < s.end →
          r ≡ turned_of levels y (cell_at cs s.at) st s → zs ≡ stacked_of levels y (cell_at cs s.at) st s → r.deep < r.stop → Deep low goal st s r zs
      going-deep g l e f d = ⊎_elim (λ w. absurd (w.0 d)) (λ w. w) (going-both g l e f)
