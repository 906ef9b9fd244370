-- Laws of the record's definitions.
use mathlib.Core.Path.{◌≡◌, refl}
use mathlib.Core.Bool.{Bool, true, false, cond, not, ◌&&◌, ◌||◌}
use Prim.Native.Nat.{ℕ, suc, ◌*◌, ◌<◌, ◌≤◌}
use native.Mathlib.Omega.{arith}
use native.Mathlib.Nat.{mul-le-mul, le_trans}
use lib.Dec.{eqb, ltb, leb}
use lib.IntN.{pos}
use lib.Ieee.{Float, binary64, of_int, lt, le}
use borrow.Author.Tests.{ltb-true, leb-true, ltb-false, ne_eqb, le-ltb, eqb-true, eqb-false, not-false}
use Rattle.laws.specs.Domain.{early_iterations, most_features, most_frames, most_iterations, most_components}
use Rattle.laws.proofs.Bools.{by_bool, and_left, and_right, or_left, or_right}
use Rattle.laws.specs.Area.{zero64}
use Rattle.elementary.specs.Limits.{neighbours_of}
use Rattle.run_record.specs.declared.Method.{Method}
use Rattle.run_record.specs.declared.Method.TheVariants.{Exact, BarnesHut}
use Rattle.run_record.specs.declared.Standing.{Standing}
use Rattle.run_record.specs.declared.Standing.TheVariants.{Running, Stopped, Finished}
use Rattle.run_record.specs.declared.Settings.{Settings}
use Rattle.run_record.specs.Record.{largest, above_zero, positive, angle_fault, from7, from5, from4, from3, from2, early_fault, late_fault, settings_fault}
use Rattle.run_record.specs.Record.{per_of, state_fits, GoodSettings, k_of, most_per, most_units}

pub per-most : (m : Method) (n : ℕ) → n ≤ most_frames → per_of m n ≤ most_per
unfolding per_of
per-most Exact n h = omega arith
per-most BarnesHut n h = omega arith

pub per-some : (m : Method) (n : ℕ) → 2 * n < per_of m n
unfolding per_of
per-some Exact n = omega arith
per-some BarnesHut n = omega arith

pub done-most : (s : Standing) (d i p : ℕ) (l : Float) → state_fits s d i p l ≡ true → d ≤ i
unfolding state_fits
done-most Running d i p l e = omega (arith, ltb-true d i e)
done-most Stopped d i p l e = leb-true d i
    (and_right (leb (suc early_iterations) d) (leb d i)
    (and_left (leb (suc early_iterations) d && leb d i) (above_zero l) (and_left (leb (suc early_iterations) d && leb d i && above_zero l) (eqb p 0) e)))
done-most Finished d i p l e = omega (arith, eqb-true d i (and_left (eqb d i) (eqb p 0) e))

pub product-fits : (d i : ℕ) (m : Method) (n : ℕ) → d ≤ i → i ≤ most_iterations → n ≤ most_frames → d * per_of m n ≤ most_units
product-fits d i m n a b c = mul-le-mul (le_trans a b) (per-most m n c)

-- ---- settings: no fault is good order, and good order is no fault

-- where no number is told, each test has let pass: one that tells k, one that tells another's number, and the last
pub test-told : (t : Bool) (k r : ℕ) → (k ≡ 0 → ⊥) → cond t k r ≡ 0 → (t ≡ false) × (r ≡ 0)
test-told true k r n e = absurd (n e)
test-told false k r n e = (refl, e)

pub number-told : (k r : ℕ) → cond (not (eqb k 0)) k r ≡ 0 → (k ≡ 0) × (r ≡ 0)
number-told k r e = by_bool ((k ≡ 0) × (r ≡ 0)) (eqb k 0) (λ q. (eqb-true k 0 q, rw q at e)) (λ q. absurd (eqb-false k 0 q (rw q at e)))

pub last-told : (t : Bool) (k : ℕ) → (k ≡ 0 → ⊥) → cond t 0 k ≡ 0 → t ≡ true
last-told true k n e = refl
last-told false k n e = absurd (n e)

pub record Early (s : Settings) : Type 0 where
  pub c-fine : (eqb s.c 0 || ltb most_components s.c) ≡ false
  pub p-fine : positive s.perplexity ≡ true
  pub r-fine : positive s.rate ≡ true
  pub i-fine : (eqb s.iterations 0 || ltb most_iterations s.iterations) ≡ false
  pub t-fine : angle_fault s.method s.angle s.c ≡ 0
  pub n-fine : (eqb s.n 0 || ltb most_frames s.n) ≡ false
  pub f-fine : (eqb s.f 0 || ltb most_features s.f) ≡ false

pub early-fine : (s : Settings) → early_fault s ≡ 0 → Early s
unfolding early_fault
early-fine s e =
    let a = test-told (eqb s.c 0 || ltb most_components s.c) 1 (from2 s) (λ q. omega arith) e in
    let b = test-told (not (positive s.perplexity)) 2 (from3 s) (λ q. omega arith) a.1 in
    let d = test-told (not (positive s.rate)) 3 (from4 s) (λ q. omega arith) b.1 in
    let f = test-told (eqb s.iterations 0 || ltb most_iterations s.iterations) 4 (from5 s) (λ q. omega arith) d.1 in
    let g = number-told (angle_fault s.method s.angle s.c) (from7 s) f.1 in
    let h = test-told (eqb s.n 0 || ltb most_frames s.n || (eqb s.f 0 || ltb most_features s.f)) 7 0 (λ q. omega arith) g.1 in
    record {
      c-fine = a.0;
      p-fine = not-false (positive s.perplexity) b.0;
      r-fine = not-false (positive s.rate) d.0;
      i-fine = f.0;
      t-fine = g.0;
      n-fine = or_left (eqb s.n 0 || ltb most_frames s.n) (eqb s.f 0 || ltb most_features s.f) h.0;
      f-fine = or_right (eqb s.n 0 || ltb most_frames s.n) (eqb s.f 0 || ltb most_features s.f) h.0;
    }

ranged : (x m : ℕ) → (eqb x 0 || ltb m x) ≡ false → (1 ≤ x) × (x ≤ m)
ranged x m e = let z = eqb-false x 0 (or_left (eqb x 0) (ltb m x) e) in let y = ltb-false m x (or_right (eqb x 0) (ltb m x) e) in (omega (arith, z), omega arith)

pub early-n : (s : Settings) → early_fault s ≡ 0 → (1 ≤ s.n) × (s.n ≤ most_frames)
early-n s e = ranged s.n most_frames (early-fine s e).n-fine

pub late-fine : (s : Settings) → late_fault s ≡ 0 → (s.n ≡ 1 → ⊥) × (lt s.perplexity (of_int binary64 (pos s.n)) ≡ true)
unfolding late_fault
late-fine s e =
    let a = test-told (eqb s.n 1) 9 (cond (lt s.perplexity (of_int binary64 (pos s.n))) 0 10) (λ q. omega arith) e in
    (eqb-false s.n 1 a.0, last-told (lt s.perplexity (of_int binary64 (pos s.n))) 10 (λ q. omega arith) a.1)

pub settings-fine : (s : Settings) → settings_fault s ≡ 0 → GoodSettings s
unfolding settings_fault
settings-fine s e =
    let g = number-told (early_fault s) (late_fault s) e in
    let y = early-fine s g.0 in
    let l = late-fine s g.1 in
    let c = ranged s.c most_components y.c-fine in
    let i = ranged s.iterations most_iterations y.i-fine in
    let n = ranged s.n most_frames y.n-fine in
    let f = ranged s.f most_features y.f-fine in
    record {
      c-some = c.0;
      c-most = c.1;
      perplexity-positive = y.p-fine;
      rate-positive = y.r-fine;
      iterations-some = i.0;
      iterations-most = i.1;
      tree-fine = y.t-fine;
      n-some = omega (arith, l.0);
      n-most = n.1;
      f-some = f.0;
      f-most = f.1;
      perplexity-below = l.1;
    }

range : (x m : ℕ) → 1 ≤ x → x ≤ m → (eqb x 0 || ltb m x) ≡ false
range x m a b = rw (ne_eqb x 0 (λ q. omega arith), le-ltb m x b)

pub settings-good : (s : Settings) → GoodSettings s → settings_fault s ≡ 0
unfolding settings_fault early_fault late_fault
settings-good s g = simp (
  range s.c most_components g.c-some g.c-most,
  g.perplexity-positive,
  g.rate-positive,
  range s.iterations most_iterations g.iterations-some g.iterations-most,
  g.tree-fine,
  range s.n most_frames (omega (arith, g.n-some)) g.n-most,
  range s.f most_features g.f-some g.f-most,
  ne_eqb s.n 1 (λ q. omega (arith, g.n-some)),
  g.perplexity-below,
)

pub k-most : (s : Settings) → GoodSettings s → (1 ≤ k_of s) × (k_of s < s.n)
unfolding neighbours_of
k-most s g = omega (arith, g.n-some)

pub above-zero : (x : Float) → positive x ≡ true → lt zero64 x ≡ true
unfolding positive
above-zero x e = and_left (lt zero64 x) (le x largest) e
