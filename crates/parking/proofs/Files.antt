-- A file is a parked run exactly where its length is that of its records, the first three are fine, and each area is, filling included. Assumes nothing.
use mathlib.Core.Path.{◌≡◌, refl, sym, ap, subst, ◌∙◌}
use mathlib.Core.List.{List}
use mathlib.Core.Bool.{Bool, true, false, cond, not}
use Prim.Native.Nat.{ℕ, zero, suc, ◌+◌, ◌-◌, ◌*◌, ◌/◌, ◌%◌, ◌<◌, ◌≤◌}
use native.Mathlib.Omega.{arith}
use native.Mathlib.Decide.{dec_lt}
use lib.Dec.{eqb, ltb, leb}
use lib.ListN.{length}
use borrow.Author.Tests.{lt-ltb, le-ltb, le-leb, eq-eqb, eqb-true, not-false}
use Rattle.laws.specs.Loops.{every}
use Rattle.laws.specs.Area.{bits}
use Rattle.laws.proofs.Bools.{and_left, and_right}
use Rattle.laws.proofs.Every.{every-at, every-all}
use Rattle.laws.proofs.First.{first-all, first-none}
use Rattle.elementary.specs.Limits.{calm}
use Rattle.little.specs.Little.{word_in}
use Rattle.parked.specs.declared.Layout.{Layout}
use Rattle.parked.specs.Layout.{filled_up, records_in}
use Rattle.parked.specs.Fine.{first_fine, second_fine, third_fine, head_fine, layout_by, value_fits, offset_fits, held_fits, index_fits, weight_fits, state_fine, affinity_fine, word_fine, record_fine}
use Rattle.parked_file.specs.File.{record_stands, records_due, first_bad, is_parked}
use Rattle.parking.proofs.Regions.{filled-most, Stacked, layout-stacked, end_whole, head-before-end, by-region, chosen, in-positions, in-increments}
use Rattle.parking.proofs.Regions.{in-gains, in-affinities, in-indices, in-weights}

-- ---- an area

-- word i of an area of m words: its test, and past them zero bits
abbrev pub tested : ℕ → ℕ → Bool → ℕ → Bool
tested m i t v = cond (ltb i m) t (eqb v 0)

-- the m words from b on pass, and their filling is zero bits
pub record AreaFine (g : ℕ → ℕ) (b m : ℕ) (t : ℕ → Bool) : Type 0 where
  pub holds : (i : ℕ) → i < m → t i ≡ true
  pub zeros : (i : ℕ) → m ≤ i → i < filled_up m → g (b + i) ≡ 0

module _ (g : ℕ → ℕ) (b m : ℕ) (t : ℕ → Bool) where
  area-fine : m ≤ filled_up m → ((i : ℕ) → i < filled_up m → tested m i (t i) (g (b + i)) ≡ true) → AreaFine g b m t
  area-fine h f = record {
    holds = λ i l. rw (lt-ltb i m l) at (f i (omega arith));
    zeros = λ i k l. eqb-true (g (b + i)) 0 (rw (le-ltb i m k) at (f i l));
  }

  area-tested : AreaFine g b m t → (i : ℕ) → i < filled_up m → tested m i (t i) (g (b + i)) ≡ true
  area-tested a i h = elim (dec_lt i m) [
    | yes l ↦ rw (lt-ltb i m l) (a.holds i l)
    | no n ↦ rw (le-ltb i m (omega arith)) (eq-eqb (g (b + i)) 0 (a.zeros i (omega arith) h))
  ]

-- a test that is made only where b holds
pub else-true : (b x : Bool) → (b ≡ true → x ≡ true) → cond b x true ≡ true
else-true true x f = f refl
else-true false x f = refl

pub when_true : (b x : Bool) → b ≡ true → cond b x true ≡ true → x ≡ true
when_true b x e h = rw e at h

-- ---- the words

module _ (g : ℕ → ℕ) where
  abbrev pub value_test : ℕ → ℕ → Bool
  value_test b i = calm (bits (g (b + i)))

  abbrev pub held_test : Layout → ℕ → Bool
  held_test l i = cond l.tree (offset_fits g l i (l.affinities + i)) true

  abbrev pub index_test : Layout → ℕ → Bool
  index_test l i = ltb (g (l.indices + i)) l.n

  pub record WordsFine (l : Layout) : Type 0 where
    pub positions : AreaFine g 12 l.cells (value_test 12)
    pub increments : AreaFine g l.increments l.cells (value_test l.increments)
    pub gains : AreaFine g l.gains l.cells (value_test l.gains)
    pub affinities : AreaFine g l.affinities l.held (held_test l)
    pub indices : AreaFine g l.indices l.links (index_test l)
    pub weights : AreaFine g l.weights l.links (λ i. true)

  module _ (l : Layout) (r : Stacked l) where
    chosen_by : (w : ℕ) → word_fine g l w ≡ chosen l r (value_fits g l 12 w) (value_fits g l l.increments w) (value_fits g l l.gains w) (held_fits g l w) (index_fits g l w) (weight_fits g l w) w
    unfolding word_fine state_fine affinity_fine
    chosen_by w = refl

    less : (b i : ℕ) → b + i - b ≡ i
    less b i = omega arith

    value-at : (b i : ℕ) → value_fits g l b (b + i) ≡ tested l.cells i (value_test b i) (g (b + i))
    unfolding value_fits
    value-at b i = rw (less b i)

    held_at : (i : ℕ) → held_fits g l (l.affinities + i) ≡ tested l.held i (held_test l i) (g (l.affinities + i))
    unfolding held_fits
    held_at i = rw (less l.affinities i)

    index_at : (i : ℕ) → index_fits g l (l.indices + i) ≡ tested l.links i (index_test l i) (g (l.indices + i))
    unfolding index_fits
    index_at i = rw (less l.indices i)

    weight-at : (i : ℕ) → weight_fits g l (l.weights + i) ≡ tested l.links i true (g (l.weights + i))
    unfolding weight_fits
    weight-at i = rw (less l.weights i)

    pub at-positions : (i : ℕ) → i < filled_up l.cells → word_fine g l (12 + i) ≡ tested l.cells i (value_test 12 i) (g (12 + i))
    at-positions i h = chosen_by (12 + i) ∙ in-positions l r _ _ _ _ _ _ i h ∙ value-at 12 i

    pub at-increments : (i : ℕ) → i < filled_up l.cells → word_fine g l (l.increments + i) ≡ tested l.cells i (value_test l.increments i) (g (l.increments + i))
    at-increments i h = chosen_by (l.increments + i) ∙ in-increments l r _ _ _ _ _ _ i h ∙ value-at l.increments i

    pub at-gains : (i : ℕ) → i < filled_up l.cells → word_fine g l (l.gains + i) ≡ tested l.cells i (value_test l.gains i) (g (l.gains + i))
    at-gains i h = chosen_by (l.gains + i) ∙ in-gains l r _ _ _ _ _ _ i h ∙ value-at l.gains i

    pub at-affinities : (i : ℕ) → i < filled_up l.held → word_fine g l (l.affinities + i) ≡ tested l.held i (held_test l i) (g (l.affinities + i))
    at-affinities i h = chosen_by (l.affinities + i) ∙ in-affinities l r _ _ _ _ _ _ i h ∙ held_at i

    pub at-indices : (i : ℕ) → i < filled_up l.links → word_fine g l (l.indices + i) ≡ tested l.links i (index_test l i) (g (l.indices + i))
    at-indices i h = chosen_by (l.indices + i) ∙ in-indices l r _ _ _ _ _ _ i h ∙ index_at i

    pub at-weights : (i : ℕ) → i < filled_up l.links → word_fine g l (l.weights + i) ≡ tested l.links i true (g (l.weights + i))
    at-weights i h = chosen_by (l.weights + i) ∙ in-weights l r _ _ _ _ _ _ i h ∙ weight-at i

    words-fine : ((w : ℕ) → 12 ≤ w → w < l.end → word_fine g l w ≡ true) → WordsFine l
    words-fine f = record {
      positions = area-fine g 12 l.cells (value_test 12) (filled-most l.cells) (λ i h. sym (at-positions i h) ∙
          f (12 + i) (omega arith) (omega (arith, r.increments-at, r.gains-at, r.affinities-at, r.indices-at, r.weights-at, r.end-at)));
      increments = area-fine g l.increments l.cells (value_test l.increments) (filled-most l.cells) (λ i h. sym (at-increments i h) ∙
          f (l.increments + i) (omega (arith, r.increments-at)) (omega (arith, r.gains-at, r.affinities-at, r.indices-at, r.weights-at, r.end-at)));
      gains = area-fine g l.gains l.cells (value_test l.gains) (filled-most l.cells) (λ i h. sym (at-gains i h) ∙
          f (l.gains + i) (omega (arith, r.increments-at, r.gains-at)) (omega (arith, r.affinities-at, r.indices-at, r.weights-at, r.end-at)));
      affinities = area-fine g l.affinities l.held (held_test l) (filled-most l.held) (λ i h. sym (at-affinities i h) ∙
          f (l.affinities + i) (omega (arith, r.increments-at, r.gains-at, r.affinities-at)) (omega (arith, r.indices-at, r.weights-at, r.end-at)));
      indices = area-fine g l.indices l.links (index_test l) (filled-most l.links) (λ i h. sym (at-indices i h) ∙
          f (l.indices + i) (omega (arith, r.increments-at, r.gains-at, r.affinities-at, r.indices-at)) (omega (arith, r.weights-at, r.end-at)));
      weights = area-fine g l.weights l.links (λ i. true) (filled-most l.links) (λ i h. sym (at-weights i h) ∙
          f (l.weights + i) (omega (arith, r.increments-at, r.gains-at, r.affinities-at, r.indices-at, r.weights-at)) (omega (arith, r.end-at)));
    }

    fine-words : WordsFine l → (w : ℕ) → 12 ≤ w → w < l.end → word_fine g l w ≡ true
    fine-words a = by-region l r (λ (w : ℕ). word_fine g l w ≡ true)
        (λ i h. at-positions i h ∙ area-tested g 12 l.cells (value_test 12) a.positions i h)
        (λ i h. at-increments i h ∙ area-tested g l.increments l.cells (value_test l.increments) a.increments i h)
        (λ i h. at-gains i h ∙ area-tested g l.gains l.cells (value_test l.gains) a.gains i h)
        (λ i h. at-affinities i h ∙ area-tested g l.affinities l.held (held_test l) a.affinities i h)
        (λ i h. at-indices i h ∙ area-tested g l.indices l.links (index_test l) a.indices i h)
        (λ i h. at-weights i h ∙ area-tested g l.weights l.links (λ i. true) a.weights i h)

  -- ---- the records

  pub record FileFine : Type 0 where
    pub first-fine : first_fine (g 0) (g 1) (g 2) (g 3) ≡ true
    pub second-fine : second_fine (g 0) (g 1) (g 4) (g 5) (g 6) (g 7) ≡ true
    pub third-fine : third_fine (g 0) (g 1) (g 4) (g 6) (g 8) (g 9) (g 10) (g 11) ≡ true
    pub words : WordsFine (layout_by g)

  pub by-stacked : Stacked (layout_by g)
  unfolding layout_by
  by-stacked = layout-stacked (eqb (g 0) 1) (g 1) (g 3) (g 11)

  pub at_head : (q : ℕ) → q < 3 → record_fine g q ≡ head_fine g q
  unfolding record_fine
  at_head q h = rw (lt-ltb q 3 h)

  pub at_words : (q : ℕ) → 3 ≤ q → record_fine g q ≡ every (λ k. word_fine g (layout_by g) (4 * q + k)) 4
  unfolding record_fine
  at_words q h = rw (le-ltb q 3 h)

  pub head-0 : head_fine g 0 ≡ first_fine (g 0) (g 1) (g 2) (g 3)
  unfolding head_fine
  head-0 = refl

  pub head-1 : head_fine g 1 ≡ second_fine (g 0) (g 1) (g 4) (g 5) (g 6) (g 7)
  unfolding head_fine
  head-1 = refl

  pub head-2 : head_fine g 2 ≡ third_fine (g 0) (g 1) (g 4) (g 6) (g 8) (g 9) (g 10) (g 11)
  unfolding head_fine
  head-2 = refl

  -- a word of a record that is fine
  pub record-word : (w : ℕ) → 12 ≤ w → record_fine g (w / 4) ≡ true → word_fine g (layout_by g) w ≡ true
  record-word w a e = subst (λ (x : ℕ). word_fine g (layout_by g) x ≡ true) (whole w)
      (every-at (λ k. word_fine g (layout_by g) (4 * (w / 4) + k)) 4 (sym (at_words (w / 4) (omega arith)) ∙ e) (w % 4) (omega arith))
    where
      whole : (w : ℕ) → 4 * (w / 4) + w % 4 ≡ w
      whole w = omega arith

  pub records-fine : ((q : ℕ) → q < records_in (layout_by g) → record_fine g q ≡ true) → FileFine
  records-fine f =
      let l = layout_by g in
      let many : 3 ≤ l.end / 4 = omega (arith, head-before-end l by-stacked, end_whole l by-stacked) in
      record {
        first-fine = sym head-0 ∙ sym (at_head 0 (omega arith)) ∙ f 0 (omega (arith, many));
        second-fine = sym head-1 ∙ sym (at_head 1 (omega arith)) ∙ f 1 (omega (arith, many));
        third-fine = sym head-2 ∙ sym (at_head 2 (omega arith)) ∙ f 2 (omega (arith, many));
        words = words-fine l by-stacked (λ w a b. record-word w a (f (w / 4) (omega (arith, end_whole l by-stacked))));
      }

  pub fine-records : FileFine → (q : ℕ) → q < records_in (layout_by g) → record_fine g q ≡ true
  fine-records a q h = elim (dec_lt q 3) [
    | yes m ↦ at_head q m ∙ three q m
    | no n ↦ at_words q (omega arith) ∙ every-all (λ k. word_fine g (layout_by g) (4 * q + k)) 4 (λ k m. fine-words (layout_by g) by-stacked a.words (4 * q + k)
        (omega arith) (omega (arith, end_whole (layout_by g) by-stacked)))
  ]
    where
      three : (q : ℕ) → q < 3 → head_fine g q ≡ true
      three zero m = head-0 ∙ a.first-fine
      three (suc zero) m = head-1 ∙ a.second-fine
      three (suc (suc zero)) m = head-2 ∙ a.third-fine
      three (suc (suc (suc q))) m = absurd (omega (arith, m))

-- ---- the file

module _ (f : List ℕ) where
  pub parked-long : is_parked f ≡ true → length f ≡ 32 * records_due f
  unfolding is_parked
  parked-long e = eqb-true (length f) (32 * records_due f) (and_right (eqb (first_bad f) (records_due f)) (eqb (length f) (32 * records_due f)) e)

  pub parked-fine : is_parked f ≡ true → FileFine (word_in f)
  unfolding is_parked first_bad records_due record_stands
  parked-fine e = records-fine (word_in f) (λ q h.
      and_right (leb (32 * q + 32) (length f)) (record_fine (word_in f) q)
      (not-false (record_stands f q) (first-all (λ q. not (record_stands f q)) (records_due f)
      (omega (arith, eqb-true (first_bad f) (records_due f) (and_left (eqb (first_bad f) (records_due f)) (eqb (length f) (32 * records_due f)) e))) q h)))

  pub fine-parked : length f ≡ 32 * records_due f → FileFine (word_in f) → is_parked f ≡ true
  unfolding is_parked first_bad records_due record_stands
  fine-parked n a =
      let none : first_bad f ≡ records_due f = first-none (λ q. not (record_stands f q)) (records_due f) (λ q h. ap not (stands q h)) in
      rw (eq-eqb (first_bad f) (records_due f) none, eq-eqb (length f) (32 * records_due f) n)
    where
      stands : (q : ℕ) → q < records_due f → record_stands f q ≡ true
      stands q h = rw (le-leb (32 * q + 32) (length f) (omega (arith, n)), fine-records (word_in f) a q h)
