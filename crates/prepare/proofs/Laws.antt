-- What the tests of preparation have shown, and what the routes leave. Assumes nothing.
use mathlib.Core.Path.{◌≡◌, sym, ap, ◌∙◌}
use mathlib.Core.List.{List, ◌++◌}
use mathlib.Core.Bool.{true, false, cond, not, ◌&&◌, ◌||◌}
use Prim.Native.Nat.{ℕ, ◌+◌, ◌*◌, ◌≤◌}
use native.Mathlib.Omega.{arith}
use native.Mathlib.Nat.{mul_assoc}
use lib.Dec.{eqb, ltb, leb}
use lib.ListN.{length, replicate}
use lib.Ieee.{Float}
use borrow.Author.Tests.{eq-eqb, ne_eqb, eqb-true, ltb-false, leb-true, not-false}
use Rattle.laws.specs.Domain.{most_features, most_frames, most_components}
use Rattle.laws.specs.Area.{zero64, one64}
use Rattle.laws.specs.Joined.{pasted}
use Rattle.laws.proofs.Bools.{and_left, and_right, or_right}
use Rattle.laws.proofs.Changed.{drop-later}
use Rattle.laws.proofs.Written.{written-tail}
use Rattle.areas.specs.Filled.{filled}
use Rattle.affinity_lists.specs.Lists.{Areas, areas}
use Rattle.affinity_distances.specs.Distances.{square_of, squares_of}
use Rattle.affinity.specs.Exact.{exact_of}
use Rattle.affinity.specs.Neighbours.{neighbours_listed}
use Rattle.run_record.specs.declared.Settings.{Settings}
use Rattle.run_record.specs.Record.{is_tree, early_fault, late_fault, settings_fault, k_of, GoodSettings, fresh_run}
use Rattle.run_record.proofs.Laws.{test-told, number-told, last-told, early-fine, settings-fine}
use Rattle.run_entry.specs.Entry.{areas_fit, GoodAreas}
use Rattle.run_entry.proofs.Laws.{areas-fine}
use Rattle.run_rooms.proofs.Places.{cells-forces}
use Rattle.prepare.specs.declared.Lengths.{Lengths}
use Rattle.std.specs.Prelude.{Ok, Err}
use Rattle.prepare.specs.Prepare.{Lent, lent, lengths_of, all_inside, lengths_fit, prepare_fault, routed, routed_in, prepare_outcome, prepared}
use Rattle.run_record.specs.declared.Run.{Run}
use Rattle.prepare.specs.Room.{RouteRoom}

-- ---- the tests

-- a number that a test "0, or above m" has let pass
most : (x m : ℕ) → (eqb x 0 || ltb m x) ≡ false → x ≤ m
most x m e = ltb-false m x (or_right (eqb x 0) (ltb m x) e)

pub early-most : (s : Settings) → early_fault s ≡ 0 → (s.n ≤ most_frames) × (s.f ≤ most_features) × (s.c ≤ most_components)
early-most s e = let y = early-fine s e in (most s.n most_frames y.n-fine, most s.f most_features y.f-fine, most s.c most_components y.c-fine)

-- early and late tests together are those of the settings
pub early-late : (s : Settings) → early_fault s ≡ 0 → late_fault s ≡ 0 → GoodSettings s
unfolding settings_fault
early-late s a b = settings-fine s (rw a b)

pub record Passed (s : Settings) (table start : List Float) (l : Lengths) : Type 0 where
  pub good : GoodSettings s
  pub table_is : length table ≡ s.n * s.f
  pub table-in : all_inside table (s.n * s.f) ≡ true
  pub start_is : length start ≡ s.n * s.c
  pub areas : GoodAreas s l.areas.positions l.areas.increments l.areas.gains l.areas.affinities l.indices l.offsets l.areas.forces l.nodes
  pub values : s.n ≤ l.values
  pub places : s.n ≤ l.places

pub passed : (s : Settings) (table start : List Float) (l : Lengths) → prepare_fault s table start l ≡ 0 → Passed s table start l
unfolding prepare_fault lengths_fit
passed s table start l e =
    let T = all_inside table (s.n * s.f) in
    let S = all_inside start (s.n * s.c) in
    let F = lengths_fit s l in
    let r6 : ℕ = cond F 0 12 in
    let r5 : ℕ = cond (not S) 11 r6 in
    let r4 : ℕ = cond (not (eqb (length start) (s.n * s.c))) 11 r5 in
    let r3 : ℕ = cond (not (eqb (late_fault s) 0)) (late_fault s) r4 in
    let r2 : ℕ = cond (not T) 8 r3 in
    let r1 : ℕ = cond (not (eqb (length table) (s.n * s.f))) 7 r2 in
    let a = number-told (early_fault s) r1 e in
    let b = test-told (not (eqb (length table) (s.n * s.f))) 7 r2 (λ q. omega arith) a.1 in
    let c = test-told (not T) 8 r3 (λ q. omega arith) b.1 in
    let d = number-told (late_fault s) r4 c.1 in
    let f = test-told (not (eqb (length start) (s.n * s.c))) 11 r5 (λ q. omega arith) d.1 in
    let g = test-told (not S) 11 r6 (λ q. omega arith) f.1 in
    let h = last-told F 12 (λ q. omega arith) g.1 in
    let A = areas_fit s l.areas.positions l.areas.increments l.areas.gains l.areas.affinities l.indices l.offsets l.areas.forces l.nodes in
    let X = leb s.n l.values in
    let Y = leb s.n l.places in
    record {
      good = early-late s a.0 d.0;
      table_is = eqb-true (length table) (s.n * s.f) (not-false (eqb (length table) (s.n * s.f)) b.0);
      table-in = not-false T c.0;
      start_is = eqb-true (length start) (s.n * s.c) (not-false (eqb (length start) (s.n * s.c)) f.0);
      areas = areas-fine s l.areas.positions l.areas.increments l.areas.gains l.areas.affinities l.indices l.offsets l.areas.forces l.nodes (and_left A X (and_left (A && X) Y h));
      values = leb-true s.n l.values (and_right A X (and_left (A && X) Y h));
      places = leb-true s.n l.places (and_right (A && X) Y h);
    }

-- 2·n·k as the routes have it
pub twice : (n k l : ℕ) → 2 * n * k ≤ l → 2 * (n * k) ≤ l
twice n k l h = rw (mul_assoc 2 n k) at h

-- the routes have what they ask
pub route-room : (s : Settings) (table start : List Float) (l : Lengths) → Passed s table start l →
    RouteRoom s (length table) l.areas.affinities l.indices l.offsets l.areas.forces l.values l.places
route-room s table start l p =
    let cf = cells-forces s.n s.c in
    let f = p.areas.forces-long in
    record {
      settings-good = p.good;
      table-in = omega (arith, p.table_is);
      squares-in = omega arith;
      values-in = p.values;
      places-in = p.places;
      weights-in = λ t. twice s.n (k_of s) l.areas.affinities (p.areas.tree-long t).links-most;
      indices-in = λ t. twice s.n (k_of s) l.indices (p.areas.tree-long t).indices-most;
      offsets-in = λ t. (p.areas.tree-long t).offsets-most;
      square-in = p.areas.exact-long;
    }

-- ---- what the routes leave

module _ (s : Settings) (table : List Float) (a : Areas) where
  pub routed-tree : is_tree s.method ≡ true → neighbours_listed table s.n s.f s.perplexity a ≡ routed s table a
  unfolding routed
  routed-tree t = rw t

  pub routed-exact : {W X : List Float} {R : List ℕ} → is_tree s.method ≡ false → W ≡ exact_of table s.n s.f s.perplexity a.weights →
      X ≡ filled zero64 s.n a.row_values → R ≡ filled 0 s.n a.row_indices → areas W a.indices a.offsets X R ≡ routed s table a
  unfolding routed
  routed-exact t w x r = rw (t, w, x, r)

-- the squares stood in places that are filled
pub squares-gone : (t : List Float) (n f m : ℕ) (z : Float) (F : List Float) → n ≤ m → filled z m (squares_of t n f F) ≡ filled z m F
squares-gone t n f m z F h = ap (λ (l : List Float). replicate m z ++ l) (drop-later (squares_of t n f F) F n m h (written-tail (λ i. square_of t f i) n F))

-- ---- the answer

module _ (s : Settings) (table start : List Float) (nodes : ℕ) (l : Lent) {k : ℕ} (q : k ≡ prepare_fault s table start (lengths_of l nodes)) where
  pub refused-outcome : (k ≡ 0 → ⊥) → prepare_outcome (Err k) l ≡ prepared s table start nodes l
  unfolding prepared
  refused-outcome n = rw (ne_eqb (prepare_fault s table start (lengths_of l nodes)) 0 (λ e. n (q ∙ e)), q)

  pub ready-is : {r : Run} {p i g a F F₁ v : List Float} {x o w : List ℕ} → k ≡ 0 → r ≡ fresh_run s → areas a x o v w ≡ routed_in s table l
      → p ≡ pasted start 0 (s.n * s.c) l.positions → i ≡ filled zero64 (s.n * s.c) l.increments → g ≡ filled one64 (s.n * s.c) l.gains
      → F₁ ≡ squares_of table s.n s.f l.forces → F ≡ filled zero64 (s.n * (2 * s.c + 1)) F₁
      → prepare_outcome (Ok r) (lent p i g a x o F v w) ≡ prepared s table start nodes l
  unfolding prepared
  ready-is {r} {p} {i} {g} {a} {F} {F₁} {v} {x} {o} {w} e er ea ep ei eg ef e_f =
      let R = routed_in s table l in
      let n : eqb (prepare_fault s table start (lengths_of l nodes)) 0 ≡ true = eq-eqb (prepare_fault s table start (lengths_of l nodes)) 0 (sym q ∙ e) in
      let a' : a ≡ R.weights = ap (λ (z : Areas). z.weights) ea in
      let x' : x ≡ R.indices = ap (λ (z : Areas). z.indices) ea in
      let o' : o ≡ R.offsets = ap (λ (z : Areas). z.offsets) ea in
      let v' : v ≡ R.row_values = ap (λ (z : Areas). z.row_values) ea in
      let w' : w ≡ R.row_indices = ap (λ (z : Areas). z.row_indices) ea in
      let cf = cells-forces s.n s.c in
      let F' : F ≡ filled zero64 (s.n * (2 * s.c + 1)) l.forces = e_f ∙ ap (λ (z : List Float). filled zero64 (s.n * (2 * s.c + 1)) z) ef ∙
      squares-gone table s.n s.f (s.n * (2 * s.c + 1)) zero64 l.forces (omega arith) in
      rw (n, er, a', x', o', v', w', F', ep, ei, eg)
