-- What is read from a parked run: a record and areas in good order, between two iterations, of which 15 bars no value; written again they give the words of the file. Assumes nothing.
use mathlib.Core.Path.{◌≡◌, refl, sym, ap, subst, ◌∙◌}
use mathlib.Core.List.{List, [], ◌∷◌, map}
use mathlib.Core.Bool.{Bool, true, false, cond, not, ◌&&◌, ◌||◌}
use Prim.Native.Nat.{ℕ, zero, suc, ◌+◌, ◌-◌, ◌*◌, ◌<◌, ◌≤◌}
use native.Mathlib.Omega.{arith}
use native.Mathlib.Decide.{dec_lt}
use lib.Dec.{eqb, ltb, leb}
use lib.ListN.{length, drop, length-append, length-drop}
use lib.Ieee.{Float}
use borrow.Author.Tests.{le-leb, leb-true, eq-eqb, ne_eqb, eqb-true, eqb-false}
use Rattle.laws.specs.Area.{num, bits}
use Rattle.laws.specs.Joined.{joined}
use Rattle.laws.proofs.Bools.{and_left, and_right, by_bool}
use Rattle.laws.proofs.Every.{every-all}
use Rattle.laws.proofs.Joined.{length-map}
use Rattle.laws.proofs.Laid.{singles-size, singles-get}
use Rattle.elementary.specs.Limits.{calm, neighbours_of}
use Rattle.tree_node.specs.declared.Node.{Node}
use Rattle.run_record.specs.Record.{is_tree, angle_fine, sizes_of, GoodSettings}
use Rattle.run_record.proofs.Laws.{per-some}
use Rattle.run_entry.specs.Entry.{offset_fine, index_fine, areas_fit, GoodCounters, GoodAreas, GoodContents, Good}
use Rattle.run_entry.proofs.Laws.{areas-fine}
use Rattle.record_words.specs.RecordWords.{run_fine, settings_fine, run_of, settings_of, method_of}
use Rattle.record_words.proofs.Laws.{method-tree}
use Rattle.parked.specs.declared.Layout.{Layout}
use Rattle.parked.specs.Layout.{filled_up, layout_of}
use Rattle.parked.specs.Parked.{Stored, head_of, links_in, layout_in, parked_word}
use Rattle.parked.specs.Fine.{layout_by, offset_fits}
use Rattle.parked_file.proofs.Heads.{FirstIn, first-told, SecondIn, second-told}
use Rattle.park.specs.Park.{calm_all, calm_state}
use Rattle.unpark.specs.Unpark.{record_read, settings_read, fetched, weights_read, offsets_read, stored_read, has_room}
use Rattle.parking.specs.Held.{state_in}
use Rattle.parking.proofs.Regions.{less_one, by-region}
use Rattle.parking.proofs.Words.{filling, filling-in, filling-out, word-head, word-positions, word-increments, word-gains, word-affinities, word-indices, word-weights}
use Rattle.parking.proofs.Files.{when_true, AreaFine, FileFine, by-stacked}
use Rattle.parking.proofs.Heads.{settings_with, good-settings, ThirdFacts, third-facts}

-- fourteen more
abbrev past : ℕ → ℕ
past k = suc (suc (suc (suc (suc (suc (suc (suc (suc (suc (suc (suc (suc (suc k)))))))))))))

-- ---- what is fetched

pub fetched-at : (g : ℕ → ℕ) (b m : ℕ) (v : List ℕ) (i : ℕ) → i < m → num (fetched g b m v) i ≡ g (b + i)
unfolding fetched
fetched-at g b m v i h = singles-get (λ i. g (b + i)) m i (drop m v) 0 h

pub fetched-long : (g : ℕ → ℕ) (b m : ℕ) (v : List ℕ) → m ≤ length v → length (fetched g b m v) ≡ length v
unfolding fetched
fetched-long g b m v h = whole (length-append (joined (λ i. g (b + i) ∷ []) m) (drop m v)) (singles-size (λ i. g (b + i)) m) (length-drop m v) h
  where
    whole : {x a y m n : ℕ} → x ≡ a + y → a ≡ m → y ≡ n - m → m ≤ n → x ≡ n
    whole e f g h = omega arith

-- ---- how the file lies

pub record LyingBy (l : Layout) (g : ℕ → ℕ) : Type 0 where
  pub tree_is : l.tree ≡ eqb (g 0) 1
  pub n-is : l.n ≡ g 1
  pub cells_is : l.cells ≡ g 1 * g 3
  pub held-is : l.held ≡ cond (eqb (g 0) 1) (g 1 + 1) (g 1 * g 1)
  pub links-are : l.links ≡ g 11

pub lying-by : (g : ℕ → ℕ) → LyingBy (layout_by g) g
unfolding layout_by layout_of
lying-by g = record { tree_is = refl; n-is = refl; cells_is = refl; held-is = refl; links-are = refl }

module _ (g : ℕ → ℕ) (A : FileFine g) where
  abbrev l : Layout
  l = layout_by g

  abbrev y : LyingBy l g
  y = lying-by g

  abbrev pub record-one : FirstIn (g 0) (g 1) (g 2) (g 3)
  record-one = first-told (g 0) (g 1) (g 2) (g 3) A.first-fine

  abbrev pub record-two : SecondIn (g 0) (g 1) (g 4) (g 5) (g 6) (g 7)
  record-two = second-told (g 0) (g 1) (g 4) (g 5) (g 6) (g 7) A.second-fine

  abbrev pub record-three : ThirdFacts (g 0) (g 1) (g 4) (g 6) (g 8) (g 9) (g 10) (g 11)
  record-three = third-facts (g 0) (g 1) (g 4) (g 6) (g 8) (g 9) (g 10) (g 11) A.third-fine

  pub method-is : is_tree (method_of (g 0)) ≡ eqb (g 0) 1
  method-is = method-tree (g 0) record-one.method

  -- ---- the offsets in the file

  pub record Offset (i : ℕ) : Type 0 where
    pub rises : g (l.affinities + (i - 1)) ≤ g (l.affinities + i)
    pub below : g (l.affinities + i) ≤ l.links
    pub last : i ≡ l.n → g (l.affinities + i) ≡ l.links

  pub offset-starts : eqb (g 0) 1 ≡ true → g (l.affinities + 0) ≡ 0
  unfolding offset_fits
  offset-starts e =
      let s : l.held ≡ g 1 + 1 = rw e at y.held-is in
      eqb-true (g (l.affinities + 0)) 0 (when_true l.tree (offset_fits g l 0 (l.affinities + 0)) (y.tree_is ∙ e) (A.words.affinities.holds 0 (omega (arith, s))))

  pub offset-in : eqb (g 0) 1 ≡ true → (i : ℕ) → 1 ≤ i → i ≤ g 1 → Offset i
  unfolding offset_fits
  offset-in e i a b =
      let s : l.held ≡ g 1 + 1 = rw e at y.held-is in
      let v = g (l.affinities + i) in
      let X = leb (g (l.affinities + i - 1)) v in
      let Y = leb v l.links in
      let Z = not (eqb i l.n) || eqb v l.links in
      let q : cond (eqb i 0) (eqb v 0) (X && Y && Z) ≡ true = when_true l.tree (offset_fits g l i (l.affinities + i)) (y.tree_is ∙ e) (A.words.affinities.holds i (omega (arith, s))) in
      let p : X && Y && Z ≡ true = rw (ne_eqb i 0 (λ z. omega arith)) at q in
      record {
        rises = subst (λ (x : ℕ). g x ≤ v) (less_one l.affinities i a) (leb-true (g (l.affinities + i - 1)) v (and_left X Y (and_left (X && Y) Z p)));
        below = leb-true v l.links (and_right X Y (and_left (X && Y) Z p));
        last = λ n. eqb-true v l.links (ends (eqb i l.n) (eqb v l.links) (eq-eqb i l.n n) (and_right (X && Y) Z p));
      }
    where
      ends : (b x : Bool) → b ≡ true → (not b || x) ≡ true → x ≡ true
      ends b x e h = rw e at h

  -- ---- what is read lies as the file does

  module _ (d : Stored) where
    abbrev e : Stored
    e = stored_read g d

    pub offset_read : eqb (g 0) 1 ≡ true → (i : ℕ) → i ≤ g 1 → num e.offsets i ≡ g (l.affinities + i)
    unfolding stored_read offsets_read
    offset_read q i h =
        let s : l.held ≡ g 1 + 1 = rw q at y.held-is in
        ap (λ (b : Bool). num (cond b (fetched g l.affinities l.held d.offsets) d.offsets) i) (y.tree_is ∙ q) ∙ fetched-at g l.affinities l.held d.offsets i (omega (arith, s))

    last-read : eqb (g 0) 1 ≡ true → num e.offsets (g 1) ≡ g 11
    last-read q = offset_read q (g 1) (omega arith) ∙ (offset-in q (g 1) (omega (arith, record-one.n-some)) (omega arith)).last (sym y.n-is) ∙ y.links-are

    links-read : links_in (eqb (g 0) 1) (g 1) e.offsets ≡ g 11
    unfolding links_in
    links-read = by (eqb (g 0) 1) refl record-three.links-most
      where
        by : (b : Bool) → eqb (g 0) 1 ≡ b → cond b (leb (g 11) (2 * g 1 * neighbours_of (bits (g 4)) (g 1))) (eqb (g 11) 0) ≡ true → cond b (num e.offsets (g 1)) 0 ≡ g 11
        by true q h = last-read q
        by false q h = sym (eqb-true (g 11) 0 h)

    pub layout-read : layout_in e.run e.offsets ≡ l
    unfolding layout_in layout_by stored_read record_read
    layout-read = ap (layout_of (eqb (g 0) 1) (g 1) (g 3)) links-read

    -- ---- the words

    angle-read : cond l.tree (g 7) 0 ≡ g 7
    angle-read = rw y.tree_is (by (eqb (g 0) 1) record-two.angle-fine)
      where
        by : (b : Bool) → cond b (angle_fine (bits (g 7))) (eqb (g 7) 0) ≡ true → cond b (g 7) 0 ≡ g 7
        by true h = refl
        by false h = sym (eqb-true (g 7) 0 h)

    head_read : (k : ℕ) → k < 12 → num (head_of l e.run) k ≡ g k
    unfolding head_of stored_read record_read
    head_read zero h = refl
    head_read (suc zero) h = refl
    head_read (suc (suc zero)) h = refl
    head_read (suc (suc (suc zero))) h = refl
    head_read (suc (suc (suc (suc zero)))) h = refl
    head_read (suc (suc (suc (suc (suc zero))))) h = refl
    head_read (suc (suc (suc (suc (suc (suc zero)))))) h = refl
    head_read (suc (suc (suc (suc (suc (suc (suc zero))))))) h = angle-read
    head_read (suc (suc (suc (suc (suc (suc (suc (suc zero)))))))) h = refl
    head_read (suc (suc (suc (suc (suc (suc (suc (suc (suc zero))))))))) h = refl
    head_read (suc (suc (suc (suc (suc (suc (suc (suc (suc (suc zero)))))))))) h = refl
    head_read (suc (suc (suc (suc (suc (suc (suc (suc (suc (suc (suc zero))))))))))) h = y.links-are
    head_read (suc (suc (suc (suc (suc (suc (suc (suc (suc (suc (suc (suc k)))))))))))) h = absurd (omega (arith, h))

    fill_is : (b m : ℕ) (t : ℕ → Bool) (v : List ℕ) → AreaFine g b m t → ((i : ℕ) → i < m → num v i ≡ g (b + i)) → (i : ℕ) → i < filled_up m → filling v m i ≡ g (b + i)
    fill_is b m t v a f i h = elim (dec_lt i m) [
      | yes k ↦ filling-in v m i k ∙ f i k
      | no n ↦ filling-out v m i (omega arith) ∙ sym (a.zeros i (omega arith) h)
    ]

    pub positions-read : (i : ℕ) → i < l.cells → num e.positions i ≡ g (12 + i)
    unfolding stored_read
    positions-read i h = fetched-at g 12 l.cells d.positions i h

    pub increments-read : (i : ℕ) → i < l.cells → num e.increments i ≡ g (l.increments + i)
    unfolding stored_read
    increments-read i h = fetched-at g l.increments l.cells d.increments i h

    pub gains-read : (i : ℕ) → i < l.cells → num e.gains i ≡ g (l.gains + i)
    unfolding stored_read
    gains-read i h = fetched-at g l.gains l.cells d.gains i h

    held-read : (i : ℕ) → i < l.held → num (cond l.tree e.offsets e.affinities) i ≡ g (l.affinities + i)
    unfolding stored_read weights_read offsets_read
    held-read i h = by l.tree
      where
        by : (b : Bool) → num (cond b (cond b (fetched g l.affinities l.held d.offsets) d.offsets)
            (cond b (fetched g l.weights l.links d.affinities) (fetched g l.affinities l.held d.affinities))) i ≡ g (l.affinities + i)
        by true = fetched-at g l.affinities l.held d.offsets i h
        by false = fetched-at g l.affinities l.held d.affinities i h

    pub indices-read : (i : ℕ) → i < l.links → num e.indices i ≡ g (l.indices + i)
    unfolding stored_read
    indices-read i h = fetched-at g l.indices l.links d.indices i h

    no-links : eqb (g 0) 1 ≡ false → l.links ≡ 0
    no-links q = y.links-are ∙ eqb-true (g 11) 0 (rw q at record-three.links-most)

    weights-read : (i : ℕ) → i < l.links → num e.affinities i ≡ g (l.weights + i)
    unfolding stored_read weights_read
    weights-read i h = by l.tree refl
      where
        by : (b : Bool) → l.tree ≡ b → num (cond b (fetched g l.weights l.links d.affinities) (fetched g l.affinities l.held d.affinities)) i ≡ g (l.weights + i)
        by true q = fetched-at g l.weights l.links d.affinities i h
        by false q = absurd (omega (arith, h, no-links (sym y.tree_is ∙ q)))

    -- written again it gives the words of the file
    pub word_read : (k : ℕ) → k < l.end → parked_word l e k ≡ g k
    word_read k h =
        let r = by-stacked g in
        elim (dec_lt k 12) [
          | yes a ↦ word-head l r e k a ∙ head_read k a
          | no n ↦ by-region l r (λ (k : ℕ). parked_word l e k ≡ g k)
              (λ i a. word-positions l r e i a ∙ fill_is 12 l.cells _ e.positions A.words.positions positions-read i a)
              (λ i a. word-increments l r e i a ∙ fill_is l.increments l.cells _ e.increments A.words.increments increments-read i a)
              (λ i a. word-gains l r e i a ∙ fill_is l.gains l.cells _ e.gains A.words.gains gains-read i a)
              (λ i a. word-affinities l r e i a ∙ fill_is l.affinities l.held _ (cond l.tree e.offsets e.affinities) A.words.affinities held-read i a)
              (λ i a. word-indices l r e i a ∙ fill_is l.indices l.links _ e.indices A.words.indices indices-read i a)
              (λ i a. word-weights l r e i a ∙ fill_is l.weights l.links _ e.affinities A.words.weights weights-read i a)
              k (omega arith) h
        ]

    -- ---- good order

    pub read-fine : run_fine e.run ≡ true
    unfolding run_fine settings_fine stored_read record_read
    read-fine = fine_of (length (drop 14 d.run)) (le-leb (g 0) 1 record-one.method) record-three.s-most
      where
        fine_of : (k : ℕ) {a b : Bool} → a ≡ true → b ≡ true → leb 14 (past k) && (leb 9 (past k) && a) && b ≡ true
        fine_of k ea eb = rw (le-leb 14 (past k) (omega arith), le-leb 9 (past k) (omega arith), ea, eb)

    pub read_between : num e.run 11 ≡ 0
    unfolding stored_read record_read
    read_between = refl

    calm_of : (b : ℕ) (v : List ℕ) → AreaFine g b l.cells (λ i. calm (bits (g (b + i)))) → ((i : ℕ) → i < l.cells → num v i ≡ g (b + i)) → calm_all v l.cells ≡ true
    unfolding calm_all
    calm_of b v a f = every-all (λ i. calm (bits (num v i))) l.cells (λ i h. ap (λ (x : ℕ). calm (bits x)) (f i h) ∙ a.holds i h)

    pub read-calm : calm_state l.cells e.positions e.increments e.gains ≡ true
    unfolding calm_state
    read-calm = rw (
      calm_of 12 e.positions A.words.positions positions-read,
      calm_of l.increments e.increments A.words.increments increments-read,
      calm_of l.gains e.gains A.words.gains gains-read,
    )

    settings-good : GoodSettings (run_of e.run).settings
    unfolding run_of settings_of stored_read record_read
    settings-good = good-settings (g 0) (g 1) (g 2) (g 3) (g 4) (g 5) (g 6) (g 7) (g 8) record-one record-two

    counters-good : GoodCounters (run_of e.run)
    unfolding run_of settings_of stored_read record_read
    counters-good = record { standing-fits = record-three.state-fits; phase-below = omega (arith, per-some (method_of (g 0)) (g 1)); total = omega arith }

    contents-good : (ns : List Node) → is_tree (method_of (g 0)) ≡ true → GoodContents (g 1) (run_of e.run) e.indices e.offsets ns
    unfolding run_of settings_of stored_read record_read offset_fine index_fine sizes_of
    contents-good ns t =
        let q : eqb (g 0) 1 ≡ true = sym method-is ∙ t in
        record {
          each-offset = λ i h. by_bool _ (eqb i 0)
              (λ z. rw z (eq-eqb (num e.offsets i) 0 (offset_read q i (omega arith) ∙ ap (λ (x : ℕ). g (l.affinities + x)) (eqb-true i 0 z) ∙ offset-starts q)))
              (λ z.
              let s : 1 ≤ i = omega (arith, eqb-false i 0 z) in
              let o = offset-in q i s (omega arith) in
              let m : g 11 ≤ 2 * g 1 * neighbours_of (bits (g 4)) (g 1) = leb-true (g 11) (2 * g 1 * neighbours_of (bits (g 4)) (g 1)) (rw q at record-three.links-most) in
              rw (
                z,
                offset_read q i (omega arith),
                offset_read q (i - 1) (omega arith),
                le-leb (g (l.affinities + (i - 1))) (g (l.affinities + i)) o.rises,
              )
              (le-leb (g (l.affinities + i)) (2 * g 1 * neighbours_of (bits (g 4)) (g 1)) (omega (arith, o.below, y.links-are, m))));
          each_index = λ i h. let k : i < l.links = omega (arith, h, last-read q, y.links-are) in ap (λ (x : ℕ). ltb x (g 1)) (indices-read i k) ∙
              ap (ltb (g (l.indices + i))) (sym y.n-is) ∙ A.words.indices.holds i k;
          tree = λ n. absurd (n refl);
        }

    -- ---- areas that have room keep their lengths

    module _ (forces nodes : ℕ) (R : has_room g d forces nodes ≡ true) where
      room : GoodAreas (settings_with (g 0) (g 1) (g 2) (g 3) (g 4) (g 5) (g 6) (g 7) (g 8)) (length d.positions) (length d.increments) (length d.gains)
          (length d.affinities) (length d.indices) (length d.offsets) forces nodes
      unfolding has_room settings_read settings_of record_read
      room =
          let s = settings_with (g 0) (g 1) (g 2) (g 3) (g 4) (g 5) (g 6) (g 7) (g 8) in
          areas-fine s (length d.positions) (length d.increments) (length d.gains) (length d.affinities) (length d.indices) (length d.offsets) forces nodes
          (and_right (leb 14 (length d.run))
          (areas_fit s (length d.positions) (length d.increments) (length d.gains) (length d.affinities) (length d.indices)
          (length d.offsets) forces nodes) R)

      links-long : (a : ℕ) → (is_tree (method_of (g 0)) ≡ true → 2 * g 1 * neighbours_of (bits (g 4)) (g 1) ≤ a) → l.links ≤ a
      links-long a f = rw y.links-are (by (eqb (g 0) 1) refl record-three.links-most)
        where
          by : (b : Bool) → eqb (g 0) 1 ≡ b → cond b (leb (g 11) (2 * g 1 * neighbours_of (bits (g 4)) (g 1))) (eqb (g 11) 0) ≡ true → g 11 ≤ a
          by true q h = omega (arith, leb-true (g 11) (2 * g 1 * neighbours_of (bits (g 4)) (g 1)) h, f (method-is ∙ q))
          by false q h = omega (arith, eqb-true (g 11) 0 h)

      positions-long : length (map bits e.positions) ≡ length d.positions
      unfolding stored_read
      positions-long = length-map bits e.positions ∙ fetched-long g 12 l.cells d.positions (omega (arith, y.cells_is, room.positions-long))

      increments-long : length (map bits e.increments) ≡ length d.increments
      unfolding stored_read
      increments-long = length-map bits e.increments ∙ fetched-long g l.increments l.cells d.increments (omega (arith, y.cells_is, room.increments-long))

      gains-long : length (map bits e.gains) ≡ length d.gains
      unfolding stored_read
      gains-long = length-map bits e.gains ∙ fetched-long g l.gains l.cells d.gains (omega (arith, y.cells_is, room.gains-long))

      affinities-long : length (map bits e.affinities) ≡ length d.affinities
      unfolding stored_read weights_read
      affinities-long = length-map bits e.affinities ∙ by l.tree refl
        where
          by : (b : Bool) → l.tree ≡ b → length (cond b (fetched g l.weights l.links d.affinities) (fetched g l.affinities l.held d.affinities)) ≡ length d.affinities
          by true q = fetched-long g l.weights l.links d.affinities (links-long (length d.affinities) (λ t. (room.tree-long t).links-most))
          by false q =
              let z : eqb (g 0) 1 ≡ false = sym y.tree_is ∙ q in
              let s : l.held ≡ g 1 * g 1 = rw z at y.held-is in
              fetched-long g l.affinities l.held d.affinities (omega (arith, s, room.exact-long (method-is ∙ z)))

      indices-long : length e.indices ≡ length d.indices
      unfolding stored_read
      indices-long = fetched-long g l.indices l.links d.indices (links-long (length d.indices) (λ t. (room.tree-long t).indices-most))

      offsets-long : length e.offsets ≡ length d.offsets
      unfolding stored_read offsets_read
      offsets-long = by l.tree refl
        where
          by : (b : Bool) → l.tree ≡ b → length (cond b (fetched g l.affinities l.held d.offsets) d.offsets) ≡ length d.offsets
          by true q =
              let z : eqb (g 0) 1 ≡ true = sym y.tree_is ∙ q in
              let s : l.held ≡ g 1 + 1 = rw z at y.held-is in
              fetched-long g l.affinities l.held d.offsets (omega (arith, s, (room.tree-long (method-is ∙ z)).offsets-most))
          by false q = refl

      -- what is read is in good order, with any forces and nodes that are enough
      pub read-good : (F : List Float) (ns : List Node) → g 1 * (2 * g 3 + 1) ≤ length F → (is_tree (method_of (g 0)) ≡ true → 1 ≤ length ns) → Good (state_in e F ns)
      unfolding run_of settings_of stored_read record_read
      read-good F ns f n = record {
        settings = settings-good;
        counters = counters-good;
        areas = record {
          positions-long = omega (arith, positions-long, room.positions-long);
          increments-long = omega (arith, increments-long, room.increments-long);
          gains-long = omega (arith, gains-long, room.gains-long);
          forces-long = f;
          tree-long = λ t. record {
            links-most = omega (arith, affinities-long, (room.tree-long t).links-most);
            indices-most = omega
                (arith, indices-long, (room.tree-long t).indices-most);
            offsets-most = omega
                (arith, offsets-long, (room.tree-long t).offsets-most);
            nodes-some = n t;
          };
          exact-long = λ t. omega (arith, affinities-long, room.exact-long t);
        };
        contents = λ t. contents-good ns t;
      }
