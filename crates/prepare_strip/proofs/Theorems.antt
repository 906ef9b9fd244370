-- What is so of preparation of a strip. Assumes nothing.
use mathlib.Core.Path.{◌≡◌, sym, ap, ◌∙◌}
use mathlib.Core.List.{List}
use mathlib.Core.Bool.{Bool, true, false, cond, not, ◌||◌, true≢false}
use Prim.Native.Nat.{ℕ, ◌*◌, ◌≤◌}
use native.Mathlib.Omega.{arith}
use lib.Dec.{eqb, ltb}
use lib.ListN.{length}
use lib.IntN.{pos}
use lib.Ieee.{Float, binary64, of_int, lt}
use borrow.Author.Tests.{eqb-true, eq-eqb}
use Rattle.laws.specs.Domain.{most_axes, most_components, most_features, most_frames, most_iterations}
use Rattle.laws.proofs.Bools.{by_bool}
use Rattle.run_record.specs.declared.Settings.{Settings}
use Rattle.run_record.specs.declared.Run.{Run}
use Rattle.run_record.specs.Record.{is_tree, positive, angle_fine, angle_fault, early_fault, late_fault, fresh_run}
use Rattle.strip_profile.specs.Profile.{in_profile}
use Rattle.prepare.specs.declared.Lengths.{Lengths}
use Rattle.std.specs.Prelude.{Result, Ok, Err}
use Rattle.prepare.specs.Prepare.{Lent, lengths_of, all_inside, lengths_fit, prepare_fault, PrepareOutcome, prepared, prepare_number}
use Rattle.prepare_strip.specs.PrepareStrip.{strip_bars, strip_fault, prepared_strip}
use Rattle.prepare_strip.proofs.Laws.{bars-no-strip, bars-no-refused, bars-passed, bars-twelve, barred-outcome, passed_on}

-- ---- the numbers of preparation end at 12: 20 is none of them

either-most : (t : Bool) (a b : ℕ) → a ≤ 12 → b ≤ 12 → cond t a b ≤ 12
either-most true a b p q = p
either-most false a b p q = q

angle-number : (s : Settings) → angle_fault s.method s.angle s.c ≤ 12
unfolding angle_fault
angle-number s = either-most (is_tree s.method) _ 0 (either-most (not (angle_fine s.angle)) 5 _ (omega arith) (either-most (ltb most_axes s.c) 6 0 (omega arith) (omega arith))) (omega arith)

early-number : (s : Settings) → early_fault s ≤ 12
unfolding early_fault
early-number s =
    either-most (eqb s.c 0 || ltb most_components s.c) 1 _ (omega arith)
    (either-most (not (positive s.perplexity)) 2 _ (omega arith)
    (either-most (not (positive s.rate)) 3 _ (omega arith)
    (either-most (eqb s.iterations 0 || ltb most_iterations s.iterations) 4 _ (omega arith)
    (either-most (not (eqb (angle_fault s.method s.angle s.c) 0)) _ _ (angle-number s)
    (either-most (eqb s.n 0 || ltb most_frames s.n || (eqb s.f 0 || ltb most_features s.f)) 7 0 (omega arith) (omega arith))))))

late-number : (s : Settings) → late_fault s ≤ 12
unfolding late_fault
late-number s = either-most (eqb s.n 1) 9 _ (omega arith) (either-most (lt s.perplexity (of_int binary64 (pos s.n))) 0 10 (omega arith) (omega arith))

module _ (s : Settings) (table start : List Float) (l : Lengths) where
  -- the number that preparation itself would tell
  abbrev pub first_fault : ℕ
  first_fault = prepare_fault s table start l

  -- none of the numbers of preparation is above 12
  pub prepare-number : first_fault ≤ 12
  unfolding prepare_fault
  prepare-number =
      either-most (not (eqb (early_fault s) 0)) _ _ (early-number s)
      (either-most (not (eqb (length table) (s.n * s.f))) 7 _ (omega arith)
      (either-most (not (all_inside table (s.n * s.f))) 8 _ (omega arith)
      (either-most (not (eqb (late_fault s) 0)) _ _ (late-number s)
      (either-most (not (eqb (length start) (s.n * s.c))) 11 _ (omega arith)
      (either-most (not (all_inside start (s.n * s.c))) 11 _ (omega arith)
      (either-most (lengths_fit s l) 0 12 (omega arith) (omega arith)))))))

  barred-number : strip_bars s first_fault ≡ true → strip_fault s table start l ≡ 20
  unfolding strip_fault
  barred-number e = rw e

  passed-number : strip_bars s first_fault ≡ false → strip_fault s table start l ≡ first_fault
  unfolding strip_fault
  passed-number e = rw e

  -- ---- the tests in their order

  -- the number is 20 exactly when the tests 1 to 11 let the settings pass and they are outside the profile
  pub twenty-exactly : (strip_fault s table start l ≡ 20 → strip_bars s first_fault ≡ true) × (strip_bars s first_fault ≡ true → strip_fault s table start l ≡ 20)
  twenty-exactly = (
    λ e. by_bool (strip_bars s first_fault ≡ true) (strip_bars s first_fault) (λ b. b) (λ b. absurd
        (let q : first_fault ≡ 20 = sym (passed-number b) ∙ e in omega (arith, prepare-number))),
    barred-number,
  )

  -- where one of the tests 1 to 11 fails, the number is that test's
  pub strip-order-of-tests : (first_fault ≡ 0 → ⊥) → (first_fault ≡ 12 → ⊥) → strip_fault s table start l ≡ first_fault
  strip-order-of-tests a b = passed-number (bars-no-refused s first_fault a b)

  -- outside the profile 12 is never told: 20 comes first
  pub twenty-before-twelve : in_profile s ≡ false → strip_fault s table start l ≡ 12 → ⊥
  twenty-before-twelve e q =
      by_bool ⊥ (strip_bars s first_fault)
      (λ b. let z : ◌≡◌ {A = ℕ} 20 12 = sym (barred-number b) ∙ q in omega arith)
      (λ b. let z : first_fault ≡ 12 = sym (passed-number b) ∙ q in
      let n : first_fault ≡ 0 → ⊥ = λ o. omega arith in
      true≢false (sym (eq-eqb first_fault 12 z) ∙ sym (bars-twelve s first_fault e n) ∙ b))

-- ---- what is left

module _ (s : Settings) (table start : List Float) (nodes : ℕ) (l : Lent) where
  abbrev told_fault : ℕ
  told_fault = prepare_fault s table start (lengths_of l nodes)

  -- with settings of the profile it is preparation itself: its answer, and every area as it leaves it
  pub strip-is-preparation : in_profile s ≡ true → prepared_strip s table start nodes l ≡ prepared s table start nodes l
  strip-is-preparation e = sym (passed_on s table start nodes l (bars-no-strip s told_fault e))

  prepared-number : prepare_number (prepared s table start nodes l).answer ≡ told_fault
  unfolding prepared prepare_number
  prepared-number = by_bool _ (eqb told_fault 0) (λ e. rw e (sym (eqb-true told_fault 0 e))) (λ e. rw e)

  -- the answer has the number of the first test that fails, 0 where none does
  pub strip-refused : prepare_number (prepared_strip s table start nodes l).answer ≡ strip_fault s table start (lengths_of l nodes)
  unfolding prepare_number
  strip-refused =
      by_bool _ (strip_bars s told_fault)
      (λ e. rw (sym (barred-outcome s table start nodes l e)) (sym (barred-number s table start (lengths_of l nodes) e)))
      (λ e. rw (sym (passed_on s table start nodes l e)) (prepared-number ∙ sym (passed-number s table start (lengths_of l nodes) e)))

  ready-fresh : (r : Run) → (prepared s table start nodes l).answer ≡ Ok r → (told_fault ≡ 0) × (r ≡ fresh_run s)
  unfolding prepared
  ready-fresh r ready =
      by_bool ((told_fault ≡ 0) × (r ≡ fresh_run s)) (eqb told_fault 0)
      (λ e. let q : ◌≡◌ {A = Result Run ℕ} (Ok (fresh_run s)) (Ok r) = rw e at ready in
      let same : r ≡ fresh_run s = cc in
      (eqb-true told_fault 0 e, same))
      (λ e. absurd (let q : ◌≡◌ {A = Result Run ℕ} (Err told_fault) (Ok r) = rw e at ready in let z : ◌≡◌ {A = ℕ} 0 1 = cc in omega arith))

  passed-profile : told_fault ≡ 0 → strip_bars s told_fault ≡ false → in_profile s ≡ true
  passed-profile z b = by_bool (in_profile s ≡ true) (in_profile s) (λ e. e) (λ e. absurd (true≢false (sym (bars-passed s told_fault e z) ∙ b)))

  fresh-profile : (r : Run) → r ≡ fresh_run s → in_profile s ≡ true → in_profile r.settings ≡ true
  unfolding fresh_run
  fresh-profile r e p = rw e p

  -- a strip that is prepared is in the profile, its record is a fresh one, and everything is left as preparation leaves it: so all that is proved of a prepared run (prepare, Begins) is so of it
  pub a-prepared-strip : (r : Run) → (prepared_strip s table start nodes l).answer ≡ Ok r → (in_profile r.settings ≡ true) × (r ≡ fresh_run s) ×
      (prepared_strip s table start nodes l ≡ prepared s table start nodes l)
  a-prepared-strip r ready =
      by_bool ((in_profile r.settings ≡ true) × (r ≡ fresh_run s) × (prepared_strip s table start nodes l ≡ prepared s table start nodes l)) (strip_bars s told_fault)
      (λ b. absurd (let q : ◌≡◌ {A = Result Run ℕ} (Err 20) (Ok r) = ap (λ (o : PrepareOutcome). o.answer) (barred-outcome s table start nodes l b) ∙ ready in
      let z : ◌≡◌ {A = ℕ} 0 1 = cc in omega arith))
      (λ b. let same : prepared s table start nodes l ≡ prepared_strip s table start nodes l = passed_on s table start nodes l b in
      let f = ready-fresh r (ap (λ (o : PrepareOutcome). o.answer) same ∙ ready) in
      (fresh-profile r f.1 (passed-profile f.0 b), f.1, sym same))
