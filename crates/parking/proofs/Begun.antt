-- The first n records of a file are the start of some parked run exactly where none of them is bad. Assumes nothing.
use mathlib.Core.Path.{◌≡◌, refl, sym, ap, subst, ◌∙◌}
use mathlib.Core.List.{List, [], ◌∷◌}
use mathlib.Core.Bool.{Bool, true, false, cond, not, ◌&&◌, ◌||◌, true≢false}
use Prim.Native.Nat.{ℕ, zero, suc, ◌+◌, ◌-◌, ◌*◌, ◌/◌, ◌<◌, ◌≤◌}
use native.Mathlib.Omega.{arith}
use native.Mathlib.Decide.{dec_lt}
use native.Mathlib.Nat.{le_trans, le_refl, mul-one, mul-le-mul_right}
use lib.Dec.{eqb, ltb, leb, lit≤}
use lib.IntN.{pos}
use lib.ListN.{length, take, get_or-eq_default}
use lib.Seq.{get_or-take}
use lib.Ieee.{Float, nan, inf, fin, binary64, up, down, round, lt, le, neg, of_int, of_bits}
use lib.Ieee.Fits.{down_pos}
use lib.Ieee.Exact.{HasValue}
use lib.Ieee.Back.{round_whole}
use borrow.Author.Tests.{lt-ltb, le-ltb, le-leb, leb-true, eq-eqb, eqb-true, eqb-false, not-false, not-true}
use Rattle.laws.specs.Domain.{most_frames}
use Rattle.laws.specs.Area.{num, bits, one64}
use Rattle.laws.specs.Joined.{joined}
use Rattle.laws.proofs.Bools.{and_left, and_right, by_bool, or_yes}
use Rattle.laws.proofs.Every.{every-all}
use Rattle.laws.proofs.First.{first-le, first_holds, first-before}
use Rattle.laws.proofs.Joined.{joined-all}
use Rattle.laws.proofs.Laid.{laid-front}
use Rattle.elementary.specs.Limits.{calm, up_to, neighbours_of}
use Rattle.little.specs.Little.{little_bytes, word_in, AllBelow}
use Rattle.little.proofs.Roundtrip.{little-same, little-below}
use Rattle.run_record.specs.Record.{positive, angle_fine, state_fits}
use Rattle.record_words.specs.RecordWords.{standing_of}
use Rattle.parked.specs.declared.Layout.{Layout}
use Rattle.parked.specs.Layout.{records_in}
use Rattle.parked.specs.Fine.{first_fine, second_fine, third_fine, layout_by, offset_fits, word_fine, record_fine}
use Rattle.parked_file.specs.File.{record_stands, records_due, first_bad, is_parked}
use Rattle.parked_file.proofs.Heads.{first-told, second-told}
use Rattle.parking.specs.Held.{bytes_most, words_most, first_records, Begins}
use Rattle.parking.proofs.Regions.{filled-most, less_one, Stacked, end_whole, head-before-end, by-region}
use Rattle.parking.proofs.Words.{word-alone, word-bytes, rows_long, Lows, nil-low, cons-low, either-below}
use Rattle.parking.proofs.Files.{else-true, when_true, tested, held_test, index_test, value_test, at-positions, at-increments, at-gains, at-affinities}
use Rattle.parking.proofs.Files.{at-indices, at-weights, by-stacked, at_head, at_words, record-word, head-0, head-1, head-2, records-fine, fine-records}
use Rattle.parking.proofs.Files.{parked-long, parked-fine, fine-parked}
use Rattle.parking.proofs.Heads.{third-good}
use Rattle.parking.proofs.Taken.{LyingBy, lying-by}
use Rattle.parking.proofs.Prefix.{layout-same, record_same}

-- a perplexity of 1 is below every n from 2 on
one_below : (n : ℕ) → 2 ≤ n → n ≤ most_frames → lt one64 (of_int binary64 (pos n)) ≡ true
unfolding lt of_bits of_int
one_below n a b = value (round binary64 false n 1) (round_whole binary64 false n (le_trans b (lit≤ tt)))
  where
    value : (z : Float) → HasValue z false n 1 → lt (fin false 1 (pos 0)) z ≡ true
    value nan v = absurd v
    value (inf s) v = absurd v
    value (fin true a d) v = absurd (true≢false v.0)
    value (fin false x d) v =
        let m : 2 * down d ≤ n * down d = mul-le-mul_right (down d) a in
        let e : x * up d ≡ n * down d = sym (mul-one (x * up d)) ∙ v.1 in
        lt-ltb (1 * up (pos 0) * down d) (x * up d * down (pos 0)) (omega (arith, m, e, down_pos d))

positive-one : positive one64 ≡ true
unfolding positive lt le of_bits
positive-one = refl

angle-zero : angle_fine (bits 0) ≡ true
unfolding angle_fine le of_bits
angle-zero = refl

calm-zero : calm (bits 0) ≡ true
unfolding up_to le neg of_bits
calm-zero = refl

-- ---- what a run that is only begun can go on with

-- exact, 2 frames, 1 feature, 1 component; perplexity 1, rate 1, 1 iteration; nothing done
abbrev head_start : List ℕ
head_start = 0 ∷ 2 ∷ 1 ∷ 1 ∷ 0x3ff0000000000000 ∷ 0x3ff0000000000000 ∷ 1 ∷ 0 ∷ 0 ∷ 0 ∷ 0 ∷ 0 ∷ []

-- each offset past the first is the number of links, all else is zero
abbrev rest : Layout → ℕ → ℕ
rest l w = cond (l.tree && ltb l.affinities w && ltb w (l.affinities + l.held)) l.links 0

record Completes (g : ℕ → ℕ) (n : ℕ) (h : ℕ → ℕ) : Type 0 where
  given : (w : ℕ) → w < 4 * n → h w ≡ g w
  start : (w : ℕ) → 4 * n ≤ w → w < 12 → h w ≡ num head_start w
  after : (w : ℕ) → 4 * n ≤ w → 12 ≤ w → h w ≡ rest (layout_by h) w

no-first : (t a b : Bool) (x : ℕ) → a ≡ false → cond (t && a && b) x 0 ≡ 0
no-first true a b x e = rw e
no-first false a b x e = refl

no_second : (t a b : Bool) (x : ℕ) → b ≡ false → cond (t && a && b) x 0 ≡ 0
no_second true true b x e = rw e
no_second true false b x e = refl
no_second false a b x e = refl

yes-all : (t a b : Bool) (x : ℕ) → t ≡ true → a ≡ true → b ≡ true → cond (t && a && b) x 0 ≡ x
yes-all t a b x p q r = rw (p, q, r)

tested-by : (m i : ℕ) (t : Bool) (v : ℕ) → (i < m → t ≡ true) → (m ≤ i → v ≡ 0) → tested m i t v ≡ true
tested-by m i t v a b = elim (dec_lt i m) [
  | yes l ↦ rw (lt-ltb i m l) (a l)
  | no n ↦ rw (le-ltb i m (omega arith)) (eq-eqb v 0 (b (omega arith)))
]

module _ (l : Layout) (w : ℕ) where
  rest-low : w ≤ l.affinities → rest l w ≡ 0
  rest-low h = no-first l.tree (ltb l.affinities w) (ltb w (l.affinities + l.held)) l.links (le-ltb l.affinities w h)

  rest-high : l.affinities + l.held ≤ w → rest l w ≡ 0
  rest-high h = no_second l.tree (ltb l.affinities w) (ltb w (l.affinities + l.held)) l.links (le-ltb w (l.affinities + l.held) h)

  rest-offset : l.tree ≡ true → l.affinities < w → w < l.affinities + l.held → rest l w ≡ l.links
  rest-offset t a b = yes-all l.tree (ltb l.affinities w) (ltb w (l.affinities + l.held)) l.links t (lt-ltb l.affinities w a) (lt-ltb w (l.affinities + l.held) b)

module _ (g h : ℕ → ℕ) (n : ℕ) (C : Completes g n h) (F : (q : ℕ) → q < n → record_fine g q ≡ true) where
  abbrev l : Layout
  l = layout_by h

  abbrev r : Stacked l
  r = by-stacked h

  fine-given : (q : ℕ) → q < n → record_fine h q ≡ true
  fine-given q m = record_same h g q (λ w a. C.given w (omega arith)) ∙ F q m

  -- ---- the first three records

  fine-0 : record_fine h 0 ≡ true
  unfolding first_fine
  fine-0 = elim (dec_lt 0 n) [
    | yes m ↦ fine-given 0 m
    | no m ↦ at_head h 0 (omega arith) ∙ head-0 h ∙
        rw (C.start 0 (omega arith) (omega arith), C.start 1 (omega arith) (omega arith), C.start 2 (omega arith) (omega arith), C.start 3 (omega arith) (omega arith))
  ]

  first-in : first_fine (h 0) (h 1) (h 2) (h 3) ≡ true
  first-in = sym (head-0 h) ∙ sym (at_head h 0 (omega arith)) ∙ fine-0

  second-start : (m k : ℕ) → 2 ≤ k → k ≤ most_frames → second_fine m k 0x3ff0000000000000 0x3ff0000000000000 1 0 ≡ true
  unfolding second_fine
  second-start m k a b = rw (positive-one, one_below k a b, angle-zero) (both (eqb m 1))
    where
      both : (b : Bool) → cond b true true ≡ true
      both true = refl
      both false = refl

  fine-1 : record_fine h 1 ≡ true
  fine-1 = elim (dec_lt 1 n) [
    | yes m ↦ fine-given 1 m
    | no m ↦
        let x = first-told (h 0) (h 1) (h 2) (h 3) first-in in
        at_head h 1 (omega arith) ∙ head-1 h ∙
        rw (
          C.start 4 (omega arith) (omega arith),
          C.start 5 (omega arith) (omega arith),
          C.start 6 (omega arith) (omega arith),
          C.start 7 (omega arith) (omega arith),
        ) (second-start (h 0) (h 1) x.n-some x.n-most)
  ]

  second-in : second_fine (h 0) (h 1) (h 4) (h 5) (h 6) (h 7) ≡ true
  second-in = sym (head-1 h) ∙ sym (at_head h 1 (omega arith)) ∙ fine-1

  third-start : (m k p i : ℕ) → 1 ≤ i → third_fine m k p i 0 0 0 0 ≡ true
  unfolding state_fits standing_of
  third-start m k p i a = third-good m k p i 0 0 0 0 (record { s-most = refl; state-fits = lt-ltb 0 i a; links-most = both (eqb m 1) })
    where
      both : (b : Bool) → cond b (leb 0 (2 * k * neighbours_of (bits p) k)) (eqb 0 0) ≡ true
      both true = le-leb 0 (2 * k * neighbours_of (bits p) k) (omega arith)
      both false = refl

  fine-2 : record_fine h 2 ≡ true
  fine-2 = elim (dec_lt 2 n) [
    | yes m ↦ fine-given 2 m
    | no m ↦
        let x = second-told (h 0) (h 1) (h 4) (h 5) (h 6) (h 7) second-in in
        at_head h 2 (omega arith) ∙ head-2 h ∙
        rw (
          C.start 8 (omega arith) (omega arith),
          C.start 9 (omega arith) (omega arith),
          C.start 10 (omega arith) (omega arith),
          C.start 11 (omega arith) (omega arith),
        ) (third-start (h 0) (h 1) (h 4) (h 6) x.iterations-some)
  ]

  -- ---- the words past them

  given_word : (w : ℕ) → 12 ≤ w → w < 4 * n → word_fine h l w ≡ true
  given_word w a b = record-word h w a (fine-given (w / 4) (omega arith))

  abbrev y : LyingBy l h
  y = lying-by h

  -- an offset, whether given or not, is not above the links
  offset-most : l.tree ≡ true → (i : ℕ) → i < l.held → h (l.affinities + i) ≤ l.links
  unfolding offset_fits
  offset-most t i a = elim (dec_lt (l.affinities + i) (4 * n)) [
    | yes m ↦
        let v = h (l.affinities + i) in
        let X = leb (h (l.affinities + i - 1)) v in
        let Y = leb v l.links in
        let Z = not (eqb i l.n) || eqb v l.links in
        let e = sym (at-affinities h l r i (omega (arith, filled-most l.held))) ∙ given_word (l.affinities + i) (omega (arith, r.increments-at, r.gains-at, r.affinities-at)) m in
        let o : cond (eqb i 0) (eqb v 0) (X && Y && Z) ≡ true = when_true l.tree (offset_fits h l i (l.affinities + i)) t (in_area l.held i (held_test h l i) v a e) in
        by_bool _ (eqb i 0) (λ z. omega (arith, eqb-true v 0 (rw z at o))) (λ z. leb-true v l.links (and_right X Y (and_left (X && Y) Z (rw z at o))))
    | no m ↦
        let e = C.after (l.affinities + i) (omega arith) (omega (arith, r.increments-at, r.gains-at, r.affinities-at)) in
        elim (dec_lt 0 i) [
          | yes s ↦ omega (arith, e, rest-offset l (l.affinities + i) t (omega arith) (omega arith))
          | no s ↦ omega (arith, e, rest-low l (l.affinities + i) (omega arith))
        ]
  ]
    where
      in_area : (m i : ℕ) (t : Bool) (v : ℕ) → i < m → tested m i t v ≡ true → t ≡ true
      in_area m i t v a e = rw (lt-ltb i m a) at e

  -- an offset that is not given
  offset-after : l.tree ≡ true → (i : ℕ) → i < l.held → 4 * n ≤ l.affinities + i → offset_fits h l i (l.affinities + i) ≡ true
  unfolding offset_fits
  offset-after t i a m =
      let e = C.after (l.affinities + i) m (omega (arith, r.increments-at, r.gains-at, r.affinities-at)) in
      by_bool _ (eqb i 0)
      (λ z. rw z (eq-eqb (h (l.affinities + i)) 0 (e ∙ rest-low l (l.affinities + i) (omega (arith, eqb-true i 0 z)))))
      (λ z.
      let s : 1 ≤ i = omega (arith, eqb-false i 0 z) in
      let v : h (l.affinities + i) ≡ l.links = e ∙ rest-offset l (l.affinities + i) t (omega arith) (omega arith) in
      let b : h (l.affinities + i - 1) ≤ l.links = subst (λ (x : ℕ). h x ≤ l.links) (sym (less_one l.affinities i s)) (offset-most t (i - 1) (omega arith)) in
      rw (z, v, le-leb (h (l.affinities + i - 1)) l.links b, le-leb l.links l.links (le_refl l.links), eq-eqb l.links l.links refl) (or_yes (not (eqb i l.n)) true refl))

  value_after : (b i : ℕ) → b + i ≤ l.affinities → 12 ≤ b + i → 4 * n ≤ b + i → tested l.cells i (value_test h b i) (h (b + i)) ≡ true
  value_after b i a k m =
      let e = C.after (b + i) m k ∙ rest-low l (b + i) a in
      tested-by l.cells i (value_test h b i) (h (b + i)) (λ x. ap (λ (v : ℕ). calm (bits v)) e ∙ calm-zero) (λ x. e)

  n-some : 2 ≤ l.n
  n-some = omega (arith, y.n-is, (first-told (h 0) (h 1) (h 2) (h 3) first-in).n-some)

  after-word : (w : ℕ) → 12 ≤ w → w < l.end → 4 * n ≤ w → word_fine h l w ≡ true
  after-word = by-region l r (λ (w : ℕ). 4 * n ≤ w → word_fine h l w ≡ true)
      (λ i a m. at-positions h l r i a ∙ value_after 12 i (omega (arith, r.increments-at, r.gains-at, r.affinities-at)) (omega arith) m)
      (λ i a m. at-increments h l r i a ∙ value_after l.increments i (omega (arith, r.gains-at, r.affinities-at)) (omega (arith, r.increments-at)) m)
      (λ i a m. at-gains h l r i a ∙ value_after l.gains i (omega (arith, r.affinities-at)) (omega (arith, r.increments-at, r.gains-at)) m)
      (λ i a m.
      at-affinities h l r i a
      ∙ tested-by l.held i (held_test h l i) (h (l.affinities + i)) (λ x. else-true l.tree (offset_fits h l i (l.affinities + i)) (λ t. offset-after t i x m))
      (λ x. C.after (l.affinities + i) m (omega (arith, r.increments-at, r.gains-at, r.affinities-at)) ∙ rest-high l (l.affinities + i) (omega arith)))
      (λ i a m.
      let e = C.after (l.indices + i) m (omega (arith, r.increments-at, r.gains-at, r.affinities-at, r.indices-at)) ∙
      rest-high l (l.indices + i) (omega (arith, r.indices-at, filled-most l.held)) in
      at-indices h l r i a ∙ tested-by l.links i (index_test h l i) (h (l.indices + i)) (λ x. lt-ltb (h (l.indices + i)) l.n (omega (arith, e, n-some))) (λ x. e))
      (λ i a m.
      at-weights h l r i a
      ∙ tested-by l.links i true (h (l.weights + i)) (λ x. refl)
      (λ x. C.after (l.weights + i) m (omega (arith, r.increments-at, r.gains-at, r.affinities-at, r.indices-at, r.weights-at)) ∙
      rest-high l (l.weights + i) (omega (arith, r.indices-at, r.weights-at, filled-most l.held))))

  -- every record of it is fine
  all-fine : (q : ℕ) → q < records_in l → record_fine h q ≡ true
  all-fine q a = elim (dec_lt q n) [
    | yes m ↦ fine-given q m
    | no m ↦ elim (dec_lt q 3) [
      | yes k ↦ three q k
      | no s ↦ at_words h q (omega arith) ∙ every-all (λ k. word_fine h l (4 * q + k)) 4 (λ k b. after-word (4 * q + k) (omega arith) (omega (arith, end_whole l r)) (omega arith))
    ]
  ]
    where
      three : (q : ℕ) → q < 3 → record_fine h q ≡ true
      three zero k = fine-0
      three (suc zero) k = fine-1
      three (suc (suc zero)) k = fine-2
      three (suc (suc (suc q))) k = absurd (omega (arith, k))

-- ---- the words that go on

module _ (g : ℕ → ℕ) (n : ℕ) where
  abbrev headed : ℕ → ℕ
  headed w = cond (ltb w (4 * n)) (g w) (num head_start w)

  abbrev completed : ℕ → ℕ
  completed w = cond (ltb w 12) (headed w) (cond (ltb w (4 * n)) (g w) (rest (layout_by headed) w))

  completes : Completes g n completed
  completes = record {
    given = λ w a. rw (lt-ltb w (4 * n) a) (same (ltb w 12) (g w));
    start = λ w a b. rw (lt-ltb w 12 b, le-ltb w (4 * n) a);
    after = λ w a b. rw (le-ltb w 12 b, le-ltb w (4 * n) a) (ap (λ (l : Layout). rest l w) (layout-same headed completed (λ k c. sym (rw (lt-ltb k 12 c)))));
  }
    where
      same : (b : Bool) (x : ℕ) → cond b x x ≡ x
      same true x = refl
      same false x = refl

  completed-small : ((w : ℕ) → g w < words_most) → (w : ℕ) → completed w < words_most
  completed-small s w =
      either-below (ltb w 12) _ _ (head w)
      (either-below (ltb w (4 * n)) _ _ (s w)
      (either-below ((layout_by headed).tree && ltb (layout_by headed).affinities w && ltb w ((layout_by headed).affinities + (layout_by headed).held)) _ _
      (subst (λ (x : ℕ). x < words_most) (sym (lying-by headed).links-are) (head 11)) (omega arith)))
    where
      starts : Lows head_start
      starts = cons-low (omega arith) (cons-low (omega arith)
          (cons-low (omega arith) (cons-low (omega arith)
          (cons-low (omega arith) (cons-low (omega arith)
          (cons-low (omega arith) (cons-low (omega arith)
          (cons-low (omega arith) (cons-low (omega arith) (cons-low (omega arith) (cons-low (omega arith) nil-low)))))))))))

      head : (w : ℕ) → headed w < words_most
      head w = either-below (ltb w (4 * n)) (g w) (num head_start w) (s w) (starts.each w)

-- ---- words as bytes

bytes_below : (n v : ℕ) → AllBelow bytes_most (little_bytes n v)
unfolding little_bytes
bytes_below zero v i = omega arith
bytes_below (suc n) v zero = omega arith
bytes_below (suc n) v (suc i) = bytes_below n (v / 256) i

module _ (h : ℕ → ℕ) (small : (w : ℕ) → h w < words_most) (fine : (q : ℕ) → q < records_in (layout_by h) → record_fine h q ≡ true) where
  abbrev made : List ℕ
  made = joined (λ w. little_bytes 8 (h w)) (layout_by h).end

  made-long : length made ≡ 32 * records_in (layout_by h)
  made-long = rows_long h (layout_by h) (by-stacked h)

  made_word : (w : ℕ) → w < (layout_by h).end → word_in made w ≡ h w
  made_word w a = word-alone h (layout_by h).end w a (small w)

  made-layout : layout_by (word_in made) ≡ layout_by h
  made-layout = layout-same (word_in made) h (λ w a. made_word w (omega (arith, head-before-end (layout_by h) (by-stacked h))))

  made-stands : is_parked made ≡ true
  unfolding records_due
  made-stands = fine-parked made (made-long ∙ ap (λ (l : Layout). 32 * records_in l) (sym made-layout))
      (records-fine (word_in made) (λ q a.
      let b : q < records_in (layout_by h) = subst (λ (l : Layout). q < records_in l) made-layout a in
      record_same (word_in made) h q (λ w c. made_word w (omega (arith, b, end_whole (layout_by h) (by-stacked h)))) ∙ fine q b))

  made_bytes : AllBelow bytes_most made
  made_bytes i = elim (dec_lt i (length made)) [
    | yes a ↦ joined-all (λ (x : ℕ). x < bytes_most) (λ w. little_bytes 8 (h w)) (layout_by h).end 0 (λ j t a b. bytes_below 8 (h j) t) i a
    | no a ↦ subst (λ (x : ℕ). x < bytes_most) (sym (get_or-eq_default made 0 (omega arith))) (omega arith)
  ]

-- files with the same words start with the same records, and the other way round
fronts : (f f' : List ℕ) (n : ℕ) → AllBelow bytes_most f → AllBelow bytes_most f' → 32 * n ≤ length f → 32 * n ≤ length f' → ((w : ℕ) → w < 4 * n →
    word_in f' w ≡ word_in f w) → first_records n f' ≡ first_records n f
fronts f f' n b b' m m' e =
    let row : ℕ → List ℕ = λ w. little_bytes 8 (word_in f w) in
    ap (λ (x : ℕ). take x f') (times n)
    ∙ laid-front 8 row (4 * n) f' (λ i a. word-bytes f' i b' (omega arith) ∙ ap (little_bytes 8) (e i a))
    ∙ sym (laid-front 8 row (4 * n) f (λ i a. word-bytes f i b (omega arith)))
    ∙ ap (λ (x : ℕ). take x f) (sym (times n))
  where
    times : (n : ℕ) → 32 * n ≡ 4 * n * 8
    times n = omega arith

words_of : (f f' : List ℕ) (n : ℕ) → first_records n f' ≡ first_records n f → (w : ℕ) → w < 4 * n → word_in f' w ≡ word_in f w
words_of f f' n e w a = little-same 8 f' f (8 * w) (8 * w) (λ j m.
    sym (get_or-take (32 * n) f' (8 * w + j) 0 (omega arith)) ∙ ap (λ (x : List ℕ). num x (8 * w + j)) e ∙ get_or-take (32 * n) f (8 * w + j) 0 (omega arith))

-- ---- the theorem

module _ (f : List ℕ) (n : ℕ) (m : 32 * n ≤ length f) where
  abbrev g : ℕ → ℕ
  g = word_in f

  pub fine-begins : AllBelow bytes_most f → n ≤ first_bad f → Begins f n
  unfolding first_bad record_stands records_due
  fine-begins small b =
      let F : (q : ℕ) → q < n → record_fine g q ≡ true = λ q a. and_right (leb (32 * q + 32) (length f)) (record_fine g q)
      (not-false (record_stands f q) (first-before (λ q. not (record_stands f q)) (records_due f) q (omega (arith, b)))) in
      let h : ℕ → ℕ = completed g n in
      let C = completes g n in
      let s = completed-small g n (λ w. little-below 8 f (8 * w) small) in
      let a = all-fine g h n C F in
      let k : n ≤ records_in (layout_by h) = elim (dec_lt n 3) [
        | yes c ↦ omega (arith, head-before-end (layout_by h) (by-stacked h), end_whole (layout_by h) (by-stacked h))
        | no c ↦ subst (λ (l : Layout). n ≤ records_in l) (sym (layout-same h g (λ w d. C.given w (omega arith)))) (le_trans b (first-le (λ q. not (record_stands f q)) (records_due f)))
      ] in
      let long : 32 * n ≤ length (made h s a) = omega (arith, k, made-long h s a) in
      record {
        file = made h s a;
        in_bytes = made_bytes h s a;
        stands = made-stands h s a;
        long = long;
        same = fronts f (made h s a) n small (made_bytes h s a) m long (λ w d. made_word h s a w (omega (arith, d, k, end_whole (layout_by h) (by-stacked h))) ∙ C.given w d);
      }

  pub begins-fine : Begins f n → n ≤ first_bad f
  unfolding first_bad record_stands records_due
  begins-fine e = elim (dec_lt (first_bad f) n) [
    | no a ↦ omega arith
    | yes a ↦ absurd (elim (dec_lt (first_bad f) (records_due f)) [
      | yes c ↦
          let q = first_bad f in
          let bad : record_stands f q ≡ false = not-true (record_stands f q) (first_holds (λ q. not (record_stands f q)) (records_due f) c) in
          let good : record_fine g q ≡ true = record_same g (word_in e.file) q (λ w d. sym (words w (omega (arith, d, a)))) ∙
          fine-records (word_in e.file) (parked-fine e.file e.stands) q (omega (arith, a, due)) in
          let stands : record_stands f q ≡ true = rw (le-leb (32 * q + 32) (length f) (omega (arith, a, m)), good) in
          true≢false (sym stands ∙ bad)
      | no c ↦
          let q : records_due f ≤ first_bad f = omega arith in
          let three : 3 ≤ records_due f = omega (arith, head-before-end (layout_by g) (by-stacked g), end_whole (layout_by g) (by-stacked g)) in
          let same : records_due e.file ≡ records_due f = ap records_in (layout-same (word_in e.file) g (λ w d. words w (omega (arith, d, a, q, three)))) in
          omega (arith, due, same, a, q)
    ])
  ]
    where
      words : (w : ℕ) → w < 4 * n → word_in e.file w ≡ word_in f w
      words = words_of f e.file n e.same

      due : n ≤ records_due e.file
      due = omega (arith, parked-long e.file e.stands, e.long)

-- The first n records of a file are the start of some parked run exactly where none of them is bad: so the first bad record is the first that no run can hold after those before it.
pub bad-exactly : (f : List ℕ) → AllBelow bytes_most f → (n : ℕ) → 32 * n ≤ length f → (n ≤ first_bad f → Begins f n) × (Begins f n → n ≤ first_bad f)
bad-exactly f small n m = (fine-begins f n m small, begins-fine f n m)
