-- A file is accepted exactly where some run writes it. Assumes nothing.
use mathlib.Core.Path.{◌≡◌, refl, sym, ap, subst, ◌∙◌}
use mathlib.Core.List.{List, [], ◌∷◌, ◌++◌, append-nil}
use mathlib.Core.Bool.{Bool, true, false, cond}
use Prim.Native.Nat.{ℕ, zero, suc, ◌+◌, ◌-◌, ◌*◌, ◌<◌, ◌≤◌}
use native.Mathlib.Omega.{arith}
use native.Mathlib.Decide.{dec_lt}
use native.Mathlib.Nat.{le_refl, mul-le-mul}
use lib.Dec.{eqb}
use lib.ListN.{length, drop, replicate, length-replicate, get_or-replicate, get_or-eq_default}
use lib.Seq.{take_all, drop-length, get_or-drop, get_or-append-add}
use lib.Ieee.{Float}
use borrow.Author.Tests.{leb-true, ltb-true, eqb-true, eqb-false}
use Rattle.laws.specs.Area.{num, bits, zero64}
use Rattle.laws.specs.Joined.{joined}
use Rattle.laws.proofs.Bools.{by_bool}
use Rattle.laws.proofs.Laid.{singles-size}
use Rattle.elementary.specs.Limits.{neighbours_of}
use Rattle.little.specs.Little.{word_in, AllBelow}
use Rattle.little.proofs.Roundtrip.{little-below}
use Rattle.tree_node.specs.Arena.{blank}
use Rattle.run_record.specs.Record.{per_of, GoodSettings}
use Rattle.run_record.proofs.Laws.{done-most, product-fits, k-most}
use Rattle.run_entry.proofs.Laws.{areas-good}
use Rattle.record_words.specs.RecordWords.{settings_of, method_of, standing_of}
use Rattle.parked.specs.declared.Layout.{Layout}
use Rattle.parked.specs.Layout.{records_in}
use Rattle.parked.specs.Parked.{Stored, stored_of}
use Rattle.parked.specs.Fine.{layout_by}
use Rattle.std.specs.Prelude.{Ok}
use Rattle.park.specs.Park.{Parking, parking, parked_into, park_of}
use Rattle.parked_file.specs.File.{records_due, is_parked}
use Rattle.unpark.specs.Unpark.{record_read, settings_read, fetched, weights_read, offsets_read, stored_read, has_room}
use Rattle.parking.specs.Held.{bytes_most, halves_most, words_most, InWords, WrittenAs, first_records}
use Rattle.parking.proofs.Files.{FileFine, parked-long, parked-fine}
use Rattle.parking.proofs.Entries.{writes-parks}
use Rattle.parking.proofs.Heads.{settings_with, good-settings}
use Rattle.parking.proofs.Written.{what-is-written-stands}
use Rattle.parking.proofs.Taken.{fetched-at, LyingBy, lying-by, record-one, record-two, record-three, offset-in, offset-starts, layout-read}
use Rattle.parking.proofs.Rewritten.{writes-read, into-read}

-- ---- words of what is read

fetched-below : (m : ℕ) (g : ℕ → ℕ) (b n : ℕ) (v : List ℕ) → AllBelow m v → ((i : ℕ) → i < n → g (b + i) < m) → AllBelow m (fetched g b n v)
unfolding fetched
fetched-below m g b n v h f i = elim (dec_lt i n) [
  | yes l ↦ subst (λ (x : ℕ). x < m) (sym (fetched-at g b n v i l)) (f i l)
  | no o ↦ subst (λ (x : ℕ). x < m) (sym (past i (omega arith))) (h i)
]
  where
    place : {x n : ℕ} (i : ℕ) → x ≡ n → n ≤ i → i ≡ x + (i - n)
    place i e l = omega arith

    back : (n i : ℕ) → n ≤ i → n + (i - n) ≡ i
    back n i l = omega arith

    past : (i : ℕ) → n ≤ i → num (joined (λ j. g (b + j) ∷ []) n ++ drop n v) i ≡ num v i
    past i l =
        ap (num (joined (λ j. g (b + j) ∷ []) n ++ drop n v)) (place i (singles-size (λ j. g (b + j)) n) l)
        ∙ get_or-append-add (joined (λ j. g (b + j) ∷ []) n) (drop n v) (i - n) 0
        ∙ get_or-drop n v (i - n) 0
        ∙ ap (num v) (back n i l)

either-all : (m : ℕ) (t : Bool) (x y : List ℕ) → (t ≡ true → AllBelow m x) → (t ≡ false → AllBelow m y) → AllBelow m (cond t x y)
either-all m true x y a b = a refl
either-all m false x y a b = b refl

module _ (f : List ℕ) (small : AllBelow bytes_most f) (P : is_parked f ≡ true) where
  abbrev g : ℕ → ℕ
  g = word_in f

  abbrev l : Layout
  l = layout_by (word_in f)

  abbrev A : FileFine g
  A = parked-fine f P

  abbrev y : LyingBy l g
  y = lying-by g

  word_small : (k : ℕ) → g k < words_most
  word_small k = little-below 8 f (8 * k) small

  good : GoodSettings (settings_with (g 0) (g 1) (g 2) (g 3) (g 4) (g 5) (g 6) (g 7) (g 8))
  good = good-settings (g 0) (g 1) (g 2) (g 3) (g 4) (g 5) (g 6) (g 7) (g 8) (record-one g A) (record-two g A)

  units_small : g 9 * per_of (method_of (g 0)) (g 1) < words_most
  units_small = omega (
    arith,
    product-fits (g 9) (g 6) (method_of (g 0)) (g 1)
        (done-most (standing_of (g 10)) (g 9) (g 6) 0 (bits (g 8)) (record-three g A).state-fits) good.iterations-most good.n-most,
  )

  links-small : eqb (g 0) 1 ≡ true → g 11 < halves_most
  links-small e =
      let k = neighbours_of (bits (g 4)) (g 1) in
      let a : g 11 ≤ 2 * g 1 * k = leb-true (g 11) (2 * g 1 * k) (rw e at (record-three g A).links-most) in
      let b : k < g 1 = (k-most (settings_with (g 0) (g 1) (g 2) (g 3) (g 4) (g 5) (g 6) (g 7) (g 8)) good).1 in
      let m : 2 * g 1 * k ≤ 8192 * 4096 = mul-le-mul {n₁ = 2 * g 1} {m₁ = k} {n₂ = 8192} {m₂ = 4096} (omega (arith, good.n-most)) (omega (arith, good.n-most)) in
      omega (arith, a, m)

  offset-small : eqb (g 0) 1 ≡ true → (i : ℕ) → i ≤ g 1 → g (l.affinities + i) < halves_most
  offset-small e i h = by_bool _ (eqb i 0)
      (λ z. subst (λ (x : ℕ). g (l.affinities + x) < halves_most) (sym (eqb-true i 0 z)) (omega (arith, offset-starts g A e)))
      (λ z. omega (arith, (offset-in g A e i (omega (arith, eqb-false i 0 z)) h).below, links-small e, y.links-are))

  index-small : (i : ℕ) → i < l.links → g (l.indices + i) < halves_most
  index-small i h = omega (arith, ltb-true (g (l.indices + i)) l.n (A.words.indices.holds i h), y.n-is, good.n-most)

  run_small : (r : List ℕ) → AllBelow words_most r → AllBelow words_most (record_read g ++ r)
  unfolding record_read
  run_small r h zero = word_small 1
  run_small r h (suc zero) = word_small 2
  run_small r h (suc (suc zero)) = word_small 3
  run_small r h (suc (suc (suc zero))) = word_small 0
  run_small r h (suc (suc (suc (suc zero)))) = word_small 4
  run_small r h (suc (suc (suc (suc (suc zero))))) = word_small 5
  run_small r h (suc (suc (suc (suc (suc (suc zero)))))) = word_small 6
  run_small r h (suc (suc (suc (suc (suc (suc (suc zero))))))) = word_small 7
  run_small r h (suc (suc (suc (suc (suc (suc (suc (suc zero)))))))) = word_small 8
  run_small r h (suc (suc (suc (suc (suc (suc (suc (suc (suc zero))))))))) = word_small 10
  run_small r h (suc (suc (suc (suc (suc (suc (suc (suc (suc (suc zero)))))))))) = word_small 9
  run_small r h (suc (suc (suc (suc (suc (suc (suc (suc (suc (suc (suc zero))))))))))) = omega arith
  run_small r h (suc (suc (suc (suc (suc (suc (suc (suc (suc (suc (suc (suc zero)))))))))))) = units_small
  run_small r h (suc (suc (suc (suc (suc (suc (suc (suc (suc (suc (suc (suc (suc zero))))))))))))) = omega arith
  run_small r h (suc (suc (suc (suc (suc (suc (suc (suc (suc (suc (suc (suc (suc (suc i)))))))))))))) = h i

  -- what is read into words is words
  pub read-in-words : (d : Stored) → InWords d → InWords (stored_read g d)
  unfolding stored_read weights_read offsets_read
  read-in-words d w = record {
    run = run_small (drop 14 d.run) (λ i. subst (λ (x : ℕ). x < words_most) (sym (get_or-drop 14 d.run i 0)) (w.run (14 + i)));
    positions = fetched-below words_most g 12 l.cells d.positions w.positions (λ i h. word_small (12 + i));
    increments = fetched-below words_most g l.increments l.cells d.increments w.increments (λ i h. word_small (l.increments + i));
    gains = fetched-below words_most g l.gains l.cells d.gains w.gains (λ i h. word_small (l.gains + i));
    affinities = either-all words_most l.tree (fetched g l.weights l.links d.affinities) (fetched g l.affinities l.held d.affinities)
        (λ e. fetched-below words_most g l.weights l.links d.affinities w.affinities (λ i h. word_small (l.weights + i)))
        (λ e. fetched-below words_most g l.affinities l.held d.affinities w.affinities (λ i h. word_small (l.affinities + i)));
    indices = fetched-below halves_most g l.indices l.links d.indices w.indices index-small;
    offsets = either-all halves_most l.tree (fetched g l.affinities l.held d.offsets) d.offsets
        (λ e.
        let q : eqb (g 0) 1 ≡ true = sym y.tree_is ∙ e in
        let s : l.held ≡ g 1 + 1 = rw q at y.held-is in
        fetched-below halves_most g l.affinities l.held d.offsets w.offsets (λ i h. offset-small q i (omega (arith, s))))
        (λ e. w.offsets);
  }

  -- ---- areas of zeros, large enough

  abbrev links : ℕ
  links = 2 * g 1 * neighbours_of (bits (g 4)) (g 1)

  abbrev zeros : Stored
  zeros = stored_of (replicate 14 0) (replicate (g 1 * g 3) 0) (replicate (g 1 * g 3) 0) (replicate (g 1 * g 3) 0) (replicate (links + g 1 * g 1) 0) (replicate links 0) (replicate (g 1 + 1) 0)

  zero-all : (m n : ℕ) → 0 < m → AllBelow m (replicate n 0)
  zero-all m n h i = elim (dec_lt i n) [
    | yes l ↦ subst (λ (x : ℕ). x < m) (sym (get_or-replicate n i 0 0 l)) h
    | no o ↦ subst (λ (x : ℕ). x < m) (sym (get_or-eq_default (replicate n 0) 0 (long (length-replicate n 0) (omega arith)))) h
  ]
    where
      long : {x n i : ℕ} → x ≡ n → n ≤ i → x ≤ i
      long e l = omega arith

  zeros-words : InWords zeros
  zeros-words = record {
    run = zero-all words_most 14 (omega arith);
    positions = zero-all words_most (g 1 * g 3) (omega arith);
    increments = zero-all words_most (g 1 * g 3) (omega arith);
    gains = zero-all words_most (g 1 * g 3) (omega arith);
    affinities = zero-all words_most (links + g 1 * g 1) (omega arith);
    indices = zero-all halves_most links (omega arith);
    offsets = zero-all halves_most (g 1 + 1) (omega arith);
  }

  zeros-room : has_room g zeros (g 1 * (2 * g 3 + 1)) 1 ≡ true
  unfolding has_room settings_read settings_of record_read
  zeros-room =
      let s = settings_with (g 0) (g 1) (g 2) (g 3) (g 4) (g 5) (g 6) (g 7) (g 8) in
      let n : (m : ℕ) → length (replicate {A = ℕ} m 0) ≡ m = λ m. length-replicate m 0 in
      let c = n (g 1 * g 3) in
      areas-good s (length zeros.positions) (length zeros.increments) (length zeros.gains) (length zeros.affinities) (length zeros.indices)
      (length zeros.offsets) (g 1 * (2 * g 3 + 1)) 1 (record {
        positions-long = omega (arith, c);
        increments-long = omega (arith, c);
        gains-long = omega (arith, c);
        forces-long = le_refl (g 1 * (2 * g 3 + 1));
        tree-long = λ t. record { links-most = omega (arith, n (links + g 1 * g 1)); indices-most = omega (arith, n links); offsets-most = omega (arith, n (g 1 + 1)); nodes-some = omega arith };
        exact-long = λ t. omega (arith, n (links + g 1 * g 1));
      })

  -- what is read into them is written as the file
  pub parked-written : WrittenAs f
  unfolding records_due
  parked-written =
      let e = stored_read g zeros in
      let m = g 1 * (2 * g 3 + 1) in
      let Z : List Float = replicate m zero64 in
      let z : length Z ≡ m = length-replicate m zero64 in
      let W = writes-read f small P zeros m 1 zeros-room Z (blank ∷ []) f (omega (arith, z)) (λ t. omega arith) (le_refl (length f)) in
      record {
        run = e;
        forces = m;
        nodes = blank ∷ [];
        target = f;
        records = records_due f;
        in_words = read-in-words zeros zeros-words;
        same =
            ap (λ (x : ℕ). park_of e x (blank ∷ []) f) (sym z)
            ∙ writes-parks e Z (blank ∷ []) f W
            ∙ ap (λ (x : Layout). parking (Ok (records_in x)) (parked_into x e f)) (layout-read g A zeros)
            ∙ ap (parking (Ok (records_in l))) (into-read f small P zeros f ∙ ap (λ (x : List ℕ). f ++ x) (drop-length f) ∙ append-nil f);
        whole = parked-long f P;
      }

-- Accepted exactly: bytes are a parked run exactly where some run is written so.
pub accepted-exactly : (f : List ℕ) → AllBelow bytes_most f → (is_parked f ≡ true → WrittenAs f) × (WrittenAs f → is_parked f ≡ true)
accepted-exactly f small = (parked-written f small, λ w. written-parked w)
  where
    written-parked : WrittenAs f → is_parked f ≡ true
    written-parked w =
        ap is_parked (sym (ap (λ (x : Parking). first_records w.records x.target) w.same ∙ take_all (32 * w.records) f (omega (arith, w.whole))))
        ∙ (what-is-written-stands w.run w.forces w.nodes w.target w.records w.in_words (ap (λ (x : Parking). x.answer) w.same)).0
