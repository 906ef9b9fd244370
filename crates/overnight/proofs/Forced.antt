-- A unit of the forces writes the same into both areas: a point's row whole, an exact run's total (from +0.0 on in the first row) and gradient rows. Assumes nothing.
use mathlib.Core.Path.{◌≡◌, sym, ap, subst, ◌∙◌}
use mathlib.Core.List.{List}
use mathlib.Core.Bool.{true, false, cond, true≢false}
use Prim.Native.Nat.{ℕ, ◌+◌, ◌-◌, ◌*◌, ◌<◌, ◌≤◌}
use native.Mathlib.Omega.{arith}
use native.Mathlib.Decide.{ℕ_discrete, dec_lt}
use lib.Dec.{eqb, ltb}
use lib.ListN.{length, set, length-set}
use lib.Ieee.{Float, binary64, sub, mul}
use borrow.Author.Tests.{eq-eqb, ne_eqb, ltb-true, ltb-false}
use Rattle.laws.specs.Area.{at, num, zero64}
use Rattle.laws.specs.Loops.{loop}
use Rattle.laws.proofs.Loops.{loop-same}
use Rattle.laws.proofs.Bools.{by_bool}
use Rattle.laws.proofs.Numbers.{row_in}
use native.Mathlib.Nat.{le_refl}
use Rattle.run_record.specs.declared.Run.{Run}
use Rattle.run_record.specs.Record.{is_tree}
use Rattle.run_plan.specs.Plan.{exaggeration_of}
use Rattle.tree_node.specs.declared.Node.{Node}
use Rattle.tree_node.specs.Node.{point_of}
use Rattle.tree_bodies.specs.declared.Acc.{Acc}
use Rattle.tree.specs.Insert.{tree}
use Rattle.tree.proofs.Longer.{Fits}
use Rattle.tree_walk.specs.Repel.{repelled}
use Rattle.gradient_pairs.specs.declared.Pulls.{Pulls}
use Rattle.gradient_pairs.specs.Exact.{num_step, pulls_of}
use Rattle.gradient.specs.Exact.{four64, total_row, slope_step, gradient_row}
use Rattle.gradient.specs.Forces.{place_of, put_step, stored, attraction_of, forces_of, Linked}
use Rattle.run_units.specs.Units.{force_unit}
use Rattle.run_budget.proofs.Turns.{length_run}
use Rattle.overnight.specs.Across.{reread, SameTo, SameAs, SameLists}
use Rattle.overnight.proofs.Writes.{set_here, set-alike, puts-alike, puts-there}
use Rattle.overnight.proofs.Points.{point-same, total-same, pulls-same, attraction-same}
use Rattle.overnight.proofs.Trees.{Twin, repelled-same}

-- ---- a point's row

module _ (c i : ℕ) (t : List Float) (acc : Acc) (F F' : List Float) (h : place_of c i + (2 * c + 1) ≤ length F) (h' : place_of c i + (2 * c + 1) ≤ length F') where
  abbrev a : ℕ
  a = place_of c i

  abbrev G : List Float → List Float
  G l = loop (put_step t a) c 0 l

  abbrev H : List Float → List Float
  H l = loop (put_step acc.neg (a + c)) c 0 (G l)

  length-g : (l : List Float) → length (G l) ≡ length l
  length-g l = length_run (put_step t a) c 0 l (λ j m. length-set m (a + j) _)

  length-h : (l : List Float) → length (H l) ≡ length l
  length-h l = length_run (put_step acc.neg (a + c)) c 0 (G l) (λ j m. length-set m (a + c + j) _) ∙ length-g l

  first_alike : SameAs F F' (G F) (G F')
  first_alike = puts-alike (λ d. a + d) (λ d. at t d) c 0 F F' (λ e x l. omega (arith, l, h)) (λ e x l. omega (arith, l, h'))

  second_alike : SameAs (G F) (G F') (H F) (H F')
  second_alike = puts-alike (λ d. a + c + d) (λ d. at acc.neg d) c 0 (G F) (G F') (λ e x l. omega (arith, l, h, length-g F)) (λ e x l. omega (arith, l, h', length-g F'))

  last-alike : SameAs (H F) (H F') (stored c i t acc F) (stored c i t acc F')
  unfolding stored
  last-alike = set-alike (H F) (H F') (a + 2 * c) acc.sum (omega (arith, h, length-h F)) (omega (arith, h', length-h F'))

  pub stored-alike : SameAs F F' (stored c i t acc F) (stored c i t acc F')
  stored-alike k e = last-alike k (second_alike k (first_alike k e))

  pub stored_row : (e : ℕ) → e < 2 * c + 1 → at (stored c i t acc F) (a + e) ≡ at (stored c i t acc F') (a + e)
  unfolding stored
  stored_row e l =
      elim (dec_lt e c) [
        | yes x ↦ last-alike (a + e) (second_alike (a + e)
            (puts-there (λ d. a + d) (λ d. at t d) c 0 F F' (λ e x l. omega (arith, l, h)) (λ e x l. omega (arith, l, h')) e (omega arith) (omega (arith, x))))
        | no x ↦ elim (dec_lt e (2 * c)) [
          | yes z ↦
              let q : a + c + (e - c) ≡ a + e = omega (arith, x) in
              last-alike (a + e) (subst (λ (k : ℕ). at (H F) k ≡ at (H F') k) q
              (puts-there (λ d. a + c + d) (λ d. at acc.neg d) c 0 (G F) (G F') (λ e x l. omega (arith, l, h, length-g F)) (λ e x l. omega
              (arith, l, h', length-g F')) (e - c) (omega arith) (omega (arith, x, z))))
          | no z ↦
              let q : a + 2 * c ≡ a + e = omega (arith, z, l) in
              subst (λ (k : ℕ). at (stored c i t acc F) k ≡ at (stored c i t acc F') k) q (set_here (H F) (H F') (a + 2 * c) acc.sum (omega (arith, h, length-h F)) (omega (arith, h', length-h F')))
        ]
      ]

-- ---- a gradient row

slope-alike : (x : Pulls) (n c i : ℕ) (y y' : List Float) → SameTo (n * c) y y' → i < n → (F F' : List Float) → n * c ≤ length F → n * c ≤ length F'
    → SameAs F F' (loop (slope_step x y (i * c)) c 0 F) (loop (slope_step x y' (i * c)) c 0 F') × ((d : ℕ) → d < c →
    at (loop (slope_step x y (i * c)) c 0 F) (i * c + d) ≡ at (loop (slope_step x y' (i * c)) c 0 F') (i * c + d))
slope-alike x n c i y y' same hi F F' h h' =
    let a = i * c in
    let r : a + c ≤ n * c = row_in i n c (n * c) hi (le_refl (n * c)) in
    let v : ℕ → Float = λ d. mul binary64 (sub binary64 (mul binary64 (at y (a + d)) x.sum) (at x.along d)) four64 in
    let p : ℕ → ℕ = λ d. a + d in
    let b : (e : ℕ) → 0 ≤ e → e < 0 + c → p e < length F = λ e _ l. omega (arith, l, r, h) in
    let b' : (e : ℕ) → 0 ≤ e → e < 0 + c → p e < length F' = λ e _ l. omega (arith, l, r, h') in
    let q : loop (slope_step x y a) c 0 F' ≡ loop (slope_step x y' a) c 0 F' = loop-same (slope_step x y a) (slope_step x y' a) c 0 F' (λ d l _ m. ap
    (λ (z : Float). set l (a + d) (mul binary64 (sub binary64 (mul binary64 z x.sum) (at x.along d)) four64)) (same (a + d) (omega (arith, m, r)))) in
    rw (sym q) (puts-alike p v c 0 F F' b b', λ d l. puts-there p v c 0 F F' b b' d (omega arith) (omega (arith, l)))

-- ---- the unit

pub one-method : (r : Run) → is_tree r.settings.method ≡ true → is_tree r.settings.method ≡ false → ⊥
one-method r a b = true≢false (sym a ∙ b)

-- G and G' are what it makes of the forces F and F'
pub record Forced (r : Run) (F F' G G' : List Float) : Type 0 where
  pub kept : SameAs F F' G G'
  pub tree : is_tree r.settings.method ≡ true → (e : ℕ) → e < 2 * r.settings.c + 1 →
      at G ((r.phase - r.settings.n - 1) * (2 * r.settings.c + 1) + e) ≡ at G' ((r.phase - r.settings.n - 1) * (2 * r.settings.c + 1) + e)
  pub total : is_tree r.settings.method ≡ false → r.phase < r.settings.n → at G (r.settings.n * r.settings.c) ≡ at G' (r.settings.n * r.settings.c)
  pub row : is_tree r.settings.method ≡ false → r.settings.n ≤ r.phase → (d : ℕ) → d < r.settings.c →
      at G ((r.phase - r.settings.n) * r.settings.c + d) ≡ at G' ((r.phase - r.settings.n) * r.settings.c + d)

module _ (r : Run) (angle : Float) (used' : ℕ) (y y' P P' : List Float) (xs xs' off off' : List ℕ) (ns ns' : List Node) (F F' : List Float) (same : SameTo (r.settings.n * r.settings.c) y y') where
  abbrev n : ℕ
  n = r.settings.n

  abbrev c : ℕ
  c = r.settings.c

  abbrev U : List Float
  U = force_unit r y P xs off ns F

  abbrev U' : List Float
  U' = force_unit (reread angle used' r) y' P' xs' off' ns' F'

  pub tree-forced : is_tree r.settings.method ≡ true → angle ≡ r.settings.angle → SameLists n P P' xs xs' off off' → Twin (tree r.used ns) (tree used' ns')
      → (m : ℕ) → Fits n c m (tree r.used ns) → n < r.phase → r.phase ≤ 2 * n → Linked n P xs off (r.phase - n - 1) → num off (r.phase - n - 1 + 1) ≤ num off n
      → n * (2 * c + 1) ≤ length F → n * (2 * c + 1) ≤ length F' → Forced r F F' U U'
  unfolding force_unit forces_of exaggeration_of
  tree-forced t ea lists nodes m fits lo hi linked last h h' =
      let i = r.phase - n - 1 in
      let e = exaggeration_of r in
      let li : i < n = omega (arith, lo, hi) in
      let p = point_of y c i in
      let A = attraction_of e c y P xs off i in
      let B = repelled r.used c i p (mul binary64 r.settings.angle r.settings.angle) ns in
      let qa : A ≡ attraction_of e c y' P' xs' off' i = attraction-same n c y y' same P P' xs xs' off off' lists e i li linked last in
      let qb : B ≡ repelled used' c i (point_of y' c i) (mul binary64 angle angle) ns' =
      repelled-same n c m (tree r.used ns) (tree used' ns') nodes fits i p (mul binary64 r.settings.angle r.settings.angle)
      ∙ ap (λ (z : Float). repelled used' c i p (mul binary64 z z) ns') (sym ea)
      ∙ ap (λ (z : List Float). repelled used' c i z (mul binary64 angle angle) ns') (point-same n c y y' same i li) in
      let u : U ≡ stored c i A B F = rw t in
      let u' : U' ≡ stored c i A B F' = rw (t, qa, qb) in
      let g = row_in i n (2 * c + 1) (length F) li h in
      let g' = row_in i n (2 * c + 1) (length F') li h' in
      rw (u, u') (record {
        kept = stored-alike c i A B F F' g g';
        tree = λ _ e l. stored_row c i A B F F' g g' e l;
        total = λ z. absurd (one-method r t z);
        row = λ z. absurd (one-method r t z);
      })

  pub exact-forced : is_tree r.settings.method ≡ false → SameTo (n * n) P P' → r.phase < 2 * n → 2 ≤ n → (0 < r.phase → at F (n * c) ≡ at F' (n * c)) →
      n * c < length F → n * c < length F' → Forced r F F' U U'
  unfolding force_unit total_row gradient_row exaggeration_of
  exact-forced t matrix lo two total h h' =
      by_bool (Forced r F F' U U') (ltb r.phase n)
      (λ q.
      let i = r.phase in
      let li = ltb-true r.phase n q in
      let v = loop (num_step y c i) n 0 (cond (eqb i 0) zero64 (at F (n * c))) in
      let start : cond (eqb i 0) zero64 (at F (n * c)) ≡ cond (eqb i 0) zero64 (at F' (n * c)) = (elim (ℕ_discrete i 0) [
        | yes z ↦ rw (eq-eqb i 0 z)
        | no z ↦ rw (ne_eqb i 0 z) (total (omega (arith, z)))
      ]) in
      let w : v ≡ loop (num_step y' c i) n 0 (cond (eqb i 0) zero64 (at F' (n * c))) = total-same n c y y' same i (cond (eqb i 0) zero64 (at F (n * c))) li ∙ ap (loop (num_step y' c i) n 0) start in
      let u : U ≡ set F (n * c) v = rw (t, q) in
      let u' : U' ≡ set F' (n * c) v = rw (t, q, w) in
      rw (u, u') (record {
        kept = set-alike F F' (n * c) v h h';
        tree = λ z. absurd (one-method r z t);
        total = λ _ _. set_here F F' (n * c) v h h';
        row = λ _ l. absurd (omega (arith, li, l));
      }))
      (λ q.
      let i = r.phase - n in
      let l0 = ltb-false r.phase n q in
      let li : i < n = omega (arith, l0, lo) in
      let e = exaggeration_of r in
      let x = pulls_of y P e (at F (n * c)) n c i in
      let w : x ≡ pulls_of y' P' e (at F' (n * c)) n c i = pulls-same n c y y' same P P' matrix e (at F (n * c)) i li ∙ ap (λ (z : Float). pulls_of y' P' e z n c i) (total (omega (arith, l0, two))) in
      let u : U ≡ loop (slope_step x y (i * c)) c 0 F = rw (t, q) in
      let u' : U' ≡ loop (slope_step x y' (i * c)) c 0 F' = rw (t, q, w) in
      let s = slope-alike x n c i y y' same li F F' (omega (arith, h)) (omega (arith, h')) in
      rw (u, u') (record {
        kept = s.0;
        tree = λ z. absurd (one-method r z t);
        total = λ _ l. absurd (omega (arith, l0, l));
        row = λ _ _. s.1;
      }))
