-- What the tests have shown where none of them fails. Assumes nothing.
use mathlib.Core.Path.{◌≡◌, refl}
use mathlib.Core.List.{List}
use mathlib.Core.Bool.{Bool, true, false, cond, not, ◌&&◌, ◌||◌}
use Prim.Native.Nat.{ℕ, ◌*◌, ◌≤◌}
use native.Mathlib.Omega.{arith}
use lib.Dec.{eqb, ltb, leb}
use lib.ListN.{length}
use lib.Ieee.{Float}
use borrow.Author.Tests.{eqb-true, eqb-false, ltb-false, leb-true, not-false}
use Rattle.laws.specs.Domain.{most_features, most_frames}
use Rattle.laws.proofs.Bools.{and_left, and_right, or_left, or_right, by_bool}
use Rattle.run_record.specs.declared.Settings.{Settings}
use Rattle.run_record.specs.Record.{positive, from7, late_fault}
use Rattle.run_record.proofs.Laws.{late-fine, above-zero}
use Rattle.blind.specs.Faults.{size_fault, table_fine, rows_fit, blind_fault}
use Rattle.blind.specs.Room.{SightRoom}

passes : (t : Bool) (k r : ℕ) → (k ≡ 0 → ⊥) → cond t k r ≡ 0 → (t ≡ false) × (r ≡ 0)
passes true k r n e = absurd (n e)
passes false k r n e = (refl, e)

given : (k r : ℕ) → cond (not (eqb k 0)) k r ≡ 0 → (k ≡ 0) × (r ≡ 0)
given k r e = by_bool ((k ≡ 0) × (r ≡ 0)) (eqb k 0) (λ q. (eqb-true k 0 q, rw q at e)) (λ q. absurd (eqb-false k 0 q (rw q at e)))

last : (t : Bool) → ◌≡◌ {A = ℕ} (cond t 0 12) 0 → t ≡ true
last true e = refl
last false e = absurd (let z : ◌≡◌ {A = ℕ} 12 0 = e in omega arith)

ranged : (x m : ℕ) → (eqb x 0 || ltb m x) ≡ false → (1 ≤ x) × (x ≤ m)
ranged x m e = let z = eqb-false x 0 (or_left (eqb x 0) (ltb m x) e) in let y = ltb-false m x (or_right (eqb x 0) (ltb m x) e) in (omega (arith, z), omega arith)

-- the perplexity is positive, and n and f are in their limits
pub record SizesPass (s : Settings) : Type 0 where
  pub positive-is : positive s.perplexity ≡ true
  pub n-in : (1 ≤ s.n) × (s.n ≤ most_frames)
  pub f-in : (1 ≤ s.f) × (s.f ≤ most_features)

pub sizes-pass : (s : Settings) → size_fault s ≡ 0 → SizesPass s
unfolding size_fault
sizes-pass s e =
    let n = eqb s.n 0 || ltb most_frames s.n in
    let f = eqb s.f 0 || ltb most_features s.f in
    let a = passes (not (positive s.perplexity)) 2 (from7 s) (λ q. omega arith) e in
    let b = passes (n || f) 7 0 (λ q. omega arith) a.1 in
    record {
      positive-is = not-false (positive s.perplexity) a.0;
      n-in = ranged s.n most_frames (or_left n f b.0);
      f-in = ranged s.f most_features (or_right n f b.0);
    }

-- no test fails: the table is of n frames of f features in the domain, and the rows have room
pub record SightPass (s : Settings) (table : List Float) (q v h x : ℕ) : Type 0 where
  pub sizes : SizesPass s
  pub table_is : length table ≡ s.n * s.f
  pub table-in : table_fine table (s.n * s.f) ≡ true
  pub late-none : late_fault s ≡ 0
  pub rows_in : rows_fit s.n q v h x ≡ true

module _ (s : Settings) (table : List Float) (q v h x : ℕ) where
  pub sight-pass : blind_fault s table q v h x ≡ 0 → SightPass s table q v h x
  unfolding blind_fault
  sight-pass e =
      let T = table_fine table (s.n * s.f) in
      let R = rows_fit s.n q v h x in
      let r4 : ℕ = cond R 0 12 in
      let r3 : ℕ = cond (not (eqb (late_fault s) 0)) (late_fault s) r4 in
      let r2 : ℕ = cond (not T) 8 r3 in
      let r1 : ℕ = cond (not (eqb (length table) (s.n * s.f))) 7 r2 in
      let a = given (size_fault s) r1 e in
      let b = passes (not (eqb (length table) (s.n * s.f))) 7 r2 (λ q. omega arith) a.1 in
      let c = passes (not T) 8 r3 (λ q. omega arith) b.1 in
      let d = given (late_fault s) r4 c.1 in
      record {
        sizes = sizes-pass s a.0;
        table_is = eqb-true (length table) (s.n * s.f) (not-false (eqb (length table) (s.n * s.f)) b.0);
        table-in = not-false T c.0;
        late-none = d.0;
        rows_in = last R d.1;
      }

  fits_all : rows_fit s.n q v h x ≡ true → (s.n ≤ q) × ((s.n ≤ v) × ((s.n ≤ h) × (s.n ≤ x)))
  unfolding rows_fit
  fits_all e =
      let A = leb s.n q in
      let B = leb s.n v in
      let C = leb s.n h in
      let D = leb s.n x in
      let l = and_left (A && B && C) D e in (
        leb-true s.n q (and_left A B (and_left (A && B) C l)),
        (leb-true s.n v (and_right A B (and_left (A && B) C l)), (leb-true s.n h (and_right (A && B) C l), leb-true s.n x (and_right (A && B && C) D e))),
      )

  -- so the count has what it asks
  pub sight-room : SightPass s table q v h x → SightRoom s (length table) q v h x
  sight-room p =
      let l = late-fine s p.late-none in
      let r = fits_all p.rows_in in
      record {
        n-some = omega (arith, l.0, p.sizes.n-in);
        n-most = p.sizes.n-in.1;
        perplexity-above = above-zero s.perplexity p.sizes.positive-is;
        perplexity-below = l.1;
        table-in = omega (arith, p.table_is);
        squares-in = r.0;
        values-in = r.1.0;
        shares-in = r.1.1.0;
        places-in = r.1.1.1;
      }
