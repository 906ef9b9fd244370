-- What it says that records stand: of the first three, of all, and of each word. Assumes nothing.
use mathlib.Core.Path.{◌≡◌, refl, sym, ap, subst, ◌∙◌}
use mathlib.Core.List.{List}
use mathlib.Core.Bool.{Bool, true, false, not}
use Prim.Native.Nat.{ℕ, ◌+◌, ◌-◌, ◌*◌, ◌/◌, ◌%◌, ◌<◌, ◌≤◌}
use native.Mathlib.Omega.{arith}
use lib.Dec.{eqb, leb}
use lib.ListN.{length}
use borrow.Author.Tests.{leb-true, lt-leb, le-leb, le-ltb, eqb-true, ne_eqb, eq-eqb, not-false}
use Rattle.laws.specs.Loops.{every, first}
use Rattle.laws.proofs.Bools.{and_left, and_right}
use Rattle.laws.proofs.Every.{every-at}
use Rattle.laws.proofs.First.{Seeks, seek-start, seek-next, seek_stop, seek-done, first-le, first_holds, first-before, first-all, first-at, first-none}
use Rattle.little.specs.Little.{word_in}
use Rattle.parked.specs.declared.Layout.{Layout}
use Rattle.parked.specs.Fine.{first_fine, second_fine, third_fine, head_fine, layout_by, word_fine, record_fine}
use Rattle.parked_file.specs.File.{record_stands, records_due, first_bad, is_parked}
use Rattle.parked_file.specs.File.{head_bad, verdict_of}
use Rattle.parked_file.proofs.Lies.{Lies, lies}
use Rattle.parked_file.proofs.Heads.{Headed, first-told, second-told, third-told}

module _ (f : List ℕ) where
  -- ---- one record

  pub missing : (q : ℕ) → length f < 32 * q + 32 → record_stands f q ≡ false
  unfolding record_stands
  missing q h = rw (lt-leb (32 * q + 32) (length f) h)

  pub there : (q : ℕ) → 32 * q + 32 ≤ length f → record_stands f q ≡ record_fine (word_in f) q
  unfolding record_stands
  there q h = rw (le-leb (32 * q + 32) (length f) h)

  pub stands-long : (q : ℕ) → record_stands f q ≡ true → 32 * q + 32 ≤ length f
  unfolding record_stands
  stands-long q e = leb-true (32 * q + 32) (length f) (and_left (leb (32 * q + 32) (length f)) (record_fine (word_in f) q) e)

  stands-fine : (q : ℕ) → record_stands f q ≡ true → record_fine (word_in f) q ≡ true
  unfolding record_stands
  stands-fine q e = and_right (leb (32 * q + 32) (length f)) (record_fine (word_in f) q) e

  pub first-is : record_fine (word_in f) 0 ≡ first_fine (word_in f 0) (word_in f 1) (word_in f 2) (word_in f 3)
  unfolding record_fine head_fine
  first-is = refl

  pub second_is : record_fine (word_in f) 1 ≡ second_fine (word_in f 0) (word_in f 1) (word_in f 4) (word_in f 5) (word_in f 6) (word_in f 7)
  unfolding record_fine head_fine
  second_is = refl

  pub third-is : record_fine (word_in f) 2 ≡ third_fine (word_in f 0) (word_in f 1) (word_in f 4) (word_in f 6) (word_in f 8) (word_in f 9) (word_in f 10) (word_in f 11)
  unfolding record_fine head_fine
  third-is = refl

  pub words_are : (q : ℕ) → 3 ≤ q → record_fine (word_in f) q ≡ every (λ k. word_fine (word_in f) (layout_by (word_in f)) (4 * q + k)) 4
  unfolding record_fine
  words_are q h = rw (le-ltb q 3 h)

  -- ---- the first three

  pub stands-first : record_stands f 0 ≡ true → first_fine (word_in f 0) (word_in f 1) (word_in f 2) (word_in f 3) ≡ true
  stands-first e = sym first-is ∙ stands-fine 0 e

  pub stands-second : record_stands f 1 ≡ true → second_fine (word_in f 0) (word_in f 1) (word_in f 4) (word_in f 5) (word_in f 6) (word_in f 7) ≡ true
  stands-second e = sym second_is ∙ stands-fine 1 e

  abbrev bad : ℕ → Bool
  bad q = not (record_stands f q)

  pub headed : record_stands f 0 ≡ true → record_stands f 1 ≡ true → record_stands f 2 ≡ true → Headed (word_in f)
  headed a b c = record {
    first = first-told _ _ _ _ (stands-first a);
    second = second-told _ _ _ _ _ _ (stands-second b);
    third = third-told _ _ _ _ _ _ _ _ (sym third-is ∙ stands-fine 2 c);
  }

  -- the search among them
  pub head_first : record_stands f 0 ≡ false → 0 ≡ head_bad f
  unfolding head_bad
  head_first a = seek_stop (seek-start bad 3) (omega arith) (ap not a)

  pub head-second : record_stands f 0 ≡ true → record_stands f 1 ≡ false → 1 ≡ head_bad f
  unfolding head_bad
  head-second a b = seek_stop (seek-next (seek-start bad 3) (omega arith) (ap not a)) (omega arith) (ap not b)

  pub head-third : record_stands f 0 ≡ true → record_stands f 1 ≡ true → record_stands f 2 ≡ false → 2 ≡ head_bad f
  unfolding head_bad
  head-third a b c = seek_stop (seek-next (seek-next (seek-start bad 3) (omega arith) (ap not a)) (omega arith) (ap not b)) (omega arith) (ap not c)

  pub head-all : record_stands f 0 ≡ true → record_stands f 1 ≡ true → record_stands f 2 ≡ true → 3 ≡ head_bad f
  unfolding head_bad
  head-all a b c = seek-done (seek-next (seek-next (seek-next (seek-start bad 3) (omega arith) (ap not a)) (omega arith) (ap not b)) (omega arith) (ap not c)) (omega arith)

  module _ (h : head_bad f ≡ 3) where
    pub head-stands : (q : ℕ) → q < 3 → record_stands f q ≡ true
    unfolding head_bad
    head-stands q l = not-false (record_stands f q) (first-all bad 3 (omega (arith, h)) q l)

    pub head-good : Headed (word_in f)
    head-good = headed (head-stands 0 (omega arith)) (head-stands 1 (omega arith)) (head-stands 2 (omega arith))

    pub head-long : 96 ≤ length f
    head-long = omega (arith, stands-long 2 (head-stands 2 (omega arith)))

  -- ---- all

  pub file-lies : Lies (layout_by (word_in f))
  unfolding layout_by
  file-lies = lies (eqb (word_in f 0) 1) (word_in f 1) (word_in f 3) (word_in f 11)

  pub due-some : 3 ≤ records_due f
  unfolding records_due
  due-some = let l = file-lies in omega (arith, l.positions, l.increments, l.gains, l.held, l.indices, l.weights, l.whole)

  pub seeks-three : head_bad f ≡ 3 → Seeks bad (records_due f) 3
  seeks-three h =
      seek-next
      (seek-next
      (seek-next (seek-start bad (records_due f)) (omega (arith, due-some)) (ap not (head-stands h 0 (omega arith))))
      (omega (arith, due-some)) (ap not (head-stands h 1 (omega arith))))
      (omega (arith, due-some)) (ap not (head-stands h 2 (omega arith)))

  -- a record past them, where the file lies as l says
  pub words-stand : (l : Layout) (q : ℕ) (b : Bool) → l ≡ layout_by (word_in f) → 3 ≤ q → 32 * q + 32 ≤ length f → b ≡ every (λ k. word_fine (word_in f) l (4 * q + k)) 4 → record_stands f q ≡ b
  words-stand l q b e a h r = there q h ∙ words_are q a ∙ sym (r ∙ ap (λ (y : Layout). every (λ k. word_fine (word_in f) y (4 * q + k)) 4) e)

  pub due-is : (l : Layout) → l ≡ layout_by (word_in f) → l.end / 4 ≡ records_due f
  unfolding records_due
  due-is l e = ap (λ (y : Layout). y.end / 4) e

  pub bad-early : (head_bad f ≡ 3 → ⊥) → head_bad f ≡ first_bad f
  unfolding head_bad first_bad
  bad-early n =
      let l : first bad 3 < 3 = omega (arith, first-le bad 3, n) in
      sym (first-at bad (records_due f) (first bad 3) (omega (arith, due-some)) (first_holds bad 3 l) (λ s m. first-before bad 3 s m))

  pub verdict-bad : (first_bad f ≡ records_due f → ⊥) → record { parked = false; at = first_bad f } ≡ verdict_of f
  unfolding is_parked
  verdict-bad n = rw (ne_eqb (first_bad f) (records_due f) n)

  pub verdict-early : (head_bad f ≡ 3 → ⊥) → record { parked = false; at = head_bad f } ≡ verdict_of f
  unfolding head_bad
  verdict-early n = rw (bad-early n) (verdict-bad (λ e. n (omega (arith, e, bad-early n, due-some, first-le bad 3))))

  pub verdict-all : first_bad f ≡ records_due f → record { parked = eqb (length f) (32 * records_due f); at = first_bad f } ≡ verdict_of f
  unfolding is_parked
  verdict-all e = rw (eq-eqb (first_bad f) (records_due f) e)

  all-stand : first_bad f ≡ records_due f → (q : ℕ) → q < records_due f → record_stands f q ≡ true
  unfolding first_bad
  all-stand e q l = not-false (record_stands f q) (first-all bad (records_due f) (omega (arith, e)) q l)

  pub due-long : first_bad f ≡ records_due f → 32 * records_due f ≤ length f
  due-long e = omega (arith, due-some, stands-long (records_due f - 1) (all-stand e (records_due f - 1) (omega (arith, due-some))))

  -- ---- a parked run

  module _ (p : is_parked f ≡ true) where
    pub parked-all : first_bad f ≡ records_due f
    unfolding is_parked
    parked-all = eqb-true (first_bad f) (records_due f) (and_left (eqb (first_bad f) (records_due f)) (eqb (length f) (32 * records_due f)) p)

    parked-long : length f ≡ 32 * records_due f
    unfolding is_parked
    parked-long = eqb-true (length f) (32 * records_due f) (and_right (eqb (first_bad f) (records_due f)) (eqb (length f) (32 * records_due f)) p)

    pub parked-head : head_bad f ≡ 3
    unfolding head_bad
    parked-head = first-none bad 3 (λ t l. ap not (all-stand parked-all t (omega (arith, due-some))))

    pub parked-end : 8 * (layout_by (word_in f)).end ≡ length f
    unfolding records_due
    parked-end = omega (arith, parked-long, file-lies.whole)

    -- each word past the first three records
    pub parked-word : (w : ℕ) → 12 ≤ w → w < (layout_by (word_in f)).end → word_fine (word_in f) (layout_by (word_in f)) w ≡ true
    unfolding records_due
    parked-word w a b = subst (λ (x : ℕ). word_fine (word_in f) (layout_by (word_in f)) x ≡ true) (split w)
        (every-at (λ k. word_fine (word_in f) (layout_by (word_in f)) (4 * (w / 4) + k)) 4
        (sym (words_are (w / 4) (omega arith)) ∙ stands-fine (w / 4) (all-stand parked-all (w / 4) (omega (arith, file-lies.whole))))
        (w % 4) (omega arith))
      where
        split : (w : ℕ) → 4 * (w / 4) + w % 4 ≡ w
        split w = omega arith
