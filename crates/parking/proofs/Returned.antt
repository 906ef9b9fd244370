-- Reading what was written: the same record, but nodes in use 0 and an exact run's angle 0, and the same values; all else stays. Assumes nothing.
use mathlib.Core.Path.{◌≡◌, refl, sym, ap, ◌∙◌}
use mathlib.Core.List.{List, ◌++◌}
use mathlib.Core.Bool.{Bool, true, false, cond}
use Prim.Native.Nat.{ℕ, ◌+◌, ◌*◌, ◌<◌, ◌≤◌}
use native.Mathlib.Omega.{arith}
use lib.Dec.{eqb}
use lib.ListN.{length, drop, replicate}
use lib.Ieee.{Float}
use borrow.Author.Tests.{le-leb}
use Rattle.laws.specs.Area.{num, bits, zero64}
use Rattle.laws.specs.Joined.{pasted}
use Rattle.laws.proofs.Joined.{length-map}
use Rattle.laws.proofs.Laid.{singles-taken}
use Rattle.areas.specs.Filled.{filled}
use Rattle.little.specs.Little.{word_in}
use Rattle.tree_node.specs.declared.Node.{Node}
use Rattle.run_record.specs.Record.{is_tree, per_of, k_of, sizes_of}
use Rattle.run_entry.specs.Entry.{tree_fits, areas_fit, GoodAreas}
use Rattle.record_words.specs.RecordWords.{run_of, settings_of, method_of}
use Rattle.record_words.proofs.Laws.{method-tree}
use Rattle.parked.specs.declared.Layout.{Layout}
use Rattle.parked.specs.Parked.{Stored, links_in, layout_in}
use Rattle.parked.specs.Fine.{layout_by}
use Rattle.park.specs.Park.{park_of}
use Rattle.std.specs.Prelude.{Ok}
use Rattle.unpark.specs.Unpark.{record_read, settings_read, fetched, weights_read, offsets_read, stored_read, has_room, unparking, unpark_of}
use Rattle.parking.specs.Held.{InWords, first_records}
use Rattle.parking.specs.Again.{record_again, stored_again}
use Rattle.parking.proofs.Entries.{Writes, parks-all}
use Rattle.parking.proofs.Heads.{settings_with}
use Rattle.parking.proofs.Written.{Lying, lying, HeadIs, WordsAre, head, words_are, method-most, lists-in, file_of, file-word, file-layout, file-due, file-stands, front-is}

-- what is fetched stands in v from its start on
fetched-is : (g : ℕ → ℕ) (b m : ℕ) (v r : List ℕ) → m ≤ length v → ((i : ℕ) → i < m → g (b + i) ≡ num v i) → fetched g b m r ≡ pasted v 0 m r
unfolding fetched
fetched-is g b m v r h e = ap (λ (x : List ℕ). x ++ drop m r) (sym (singles-taken v 0 (λ i. g (b + i)) 0 m (omega arith) (λ j l. ap (num v) (plus j) ∙ sym (e j l))))
  where
    plus : (j : ℕ) → 0 + j ≡ j
    plus j = omega arith

module _ (d : Stored) (F : List Float) (ns : List Node) (t : List ℕ) (W : Writes d F ns t) (g : ℕ → ℕ) where
  abbrev w : List ℕ
  w = d.run

  abbrev l : Layout
  l = layout_in d.run d.offsets

  abbrev y : Lying l w d.offsets
  y = lying w d.offsets

  -- ---- the areas have what is written

  areas-in : GoodAreas (settings_with (num w 3) (num w 0) (num w 1) (num w 2) (num w 4) (num w 5) (num w 6) (num w 7) (num w 8)) (length d.positions)
      (length d.increments) (length d.gains) (length d.affinities) (length d.indices) (length d.offsets) (length F) (length ns)
  unfolding run_of settings_of
  areas-in = rw (length-map bits d.positions, length-map bits d.increments, length-map bits d.gains, length-map bits d.affinities) at W.good.areas

  -- ---- the record

  units_in : num w 12 ≡ num w 10 * per_of (method_of (num w 3)) (num w 0)
  unfolding run_of settings_of
  units_in = plus W.good.counters.total W.between
    where
      plus : {u x p : ℕ} → u ≡ x + p → p ≡ 0 → u ≡ x
      plus a b = omega arith

  record-again : HeadIs g l w → record_read g ≡ record_again w
  unfolding record_read record_again
  record-again h = rw (h.method, h.n, h.f, h.c, h.perplexity, h.rate, h.iterations, h.angle, h.minimum, h.done, h.state, y.tree_is, W.between, units_in)

  pub settings-again : HeadIs g l w → settings_read g ≡ settings_with (num w 3) (num w 0) (num w 1) (num w 2) (num w 4) (num w 5) (num w 6) (cond (eqb (num w 3) 1) (num w 7) 0) (num w 8)
  unfolding settings_read settings_of record_read
  settings-again h = rw (h.method, h.n, h.f, h.c, h.perplexity, h.rate, h.iterations, h.angle, h.minimum, y.tree_is)

  -- ---- the areas

  links-long : (a : ℕ) → (is_tree (method_of (num w 3)) ≡ true → 2 * num w 0 * k_of (settings_of w) ≤ a) → l.links ≤ a
  unfolding links_in settings_of
  links-long a f = rw y.links-are (by (eqb (num w 3) 1) refl)
    where
      by : (b : Bool) → eqb (num w 3) 1 ≡ b → cond b (num d.offsets (num w 0)) 0 ≤ a
      by true e = omega (arith, f (method-tree (num w 3) (method-most d F ns t W) ∙ e), (lists-in d F ns t W e).most-links)
      by false e = omega arith

  weights-again : WordsAre g l d → (v : List ℕ) → weights_read g l v ≡ pasted d.affinities 0 (cond l.tree l.links l.held) v
  unfolding weights_read settings_of
  weights-again a v = by l.tree refl
    where
      by : (b : Bool) → l.tree ≡ b → cond b (fetched g l.weights l.links v) (fetched g l.affinities l.held v) ≡ pasted d.affinities 0 (cond b l.links l.held) v
      by true e = fetched-is g l.weights l.links d.affinities v (links-long (length d.affinities) (λ z. (areas-in.tree-long z).links-most)) a.weights
      by false e =
          let q : eqb (num w 3) 1 ≡ false = sym y.tree_is ∙ e in
          let s : l.held ≡ num w 0 * num w 0 = rw q at y.held-is in
          fetched-is g l.affinities l.held d.affinities v (omega (arith, s, areas-in.exact-long (method-tree (num w 3) (method-most d F ns t W) ∙ q)))
          (λ i h. a.affinities i h ∙ ap (λ (b : Bool). num (cond b d.offsets d.affinities) i) e)

  offsets-again : WordsAre g l d → (v : List ℕ) → offsets_read g l v ≡ pasted d.offsets 0 (cond l.tree l.held 0) v
  unfolding offsets_read
  offsets-again a v = by l.tree refl
    where
      by : (b : Bool) → l.tree ≡ b → cond b (fetched g l.affinities l.held v) v ≡ pasted d.offsets 0 (cond b l.held 0) v
      by true e =
          let q : eqb (num w 3) 1 ≡ true = sym y.tree_is ∙ e in
          let s : l.held ≡ num w 0 + 1 = rw q at y.held-is in
          fetched-is g l.affinities l.held d.offsets v
          (omega (arith, s, (areas-in.tree-long (method-tree (num w 3) (method-most d F ns t W) ∙ q)).offsets-most)) (λ i h. a.affinities i h ∙
          ap (λ (b : Bool). num (cond b d.offsets d.affinities) i) e)
      by false e = refl

  stored-again : HeadIs g l w → WordsAre g l d → layout_by g ≡ l → (e : Stored) → stored_read g e ≡ stored_again d e
  unfolding stored_read stored_again settings_of
  stored-again h a q e = rw (
    q,
    record-again h,
    fetched-is g 12 l.cells d.positions e.positions (omega (arith, y.cells_is, areas-in.positions-long)) a.positions,
    fetched-is g l.increments l.cells d.increments e.increments (omega (arith, y.cells_is, areas-in.increments-long)) a.increments,
    fetched-is g l.gains l.cells d.gains e.gains (omega (arith, y.cells_is, areas-in.gains-long)) a.gains,
    weights-again a e.affinities,
    fetched-is g l.indices l.links d.indices e.indices (links-long (length d.indices) (λ z. (areas-in.tree-long z).indices-most)) a.indices,
    offsets-again a e.offsets,
  )

  -- the areas that have room for the run have room for what is read
  room-again : HeadIs g l w → (e : Stored) (forces nodes : ℕ) → 14 ≤ length e.run →
      areas_fit (settings_of w) (length e.positions) (length e.increments) (length e.gains) (length e.affinities) (length e.indices)
      (length e.offsets) forces nodes ≡ true → has_room g e forces nodes ≡ true
  unfolding has_room settings_of areas_fit tree_fits sizes_of
  room-again h e forces nodes n f = rw (le-leb 14 (length e.run) n, settings-again h) f

  forces-again : HeadIs g l w → (sizes_of (settings_read g)).forces ≡ (sizes_of (settings_of w)).forces
  unfolding settings_of sizes_of
  forces-again h = rw (settings-again h)

-- Reading what was written: where k records of d are written, the first k records of the target are read into any record of fourteen words and areas that a
-- work call on d would take, and leave there what d again is; the forces are zero.
module _ (d : Stored) (forces : ℕ) (ns : List Node) (t : List ℕ) (k : ℕ) where
  pub reading-what-was-written : InWords d → (park_of d forces ns t).answer ≡ Ok k → (e : Stored) (F : List Float) (nodes : ℕ) → 14 ≤ length e.run →
      areas_fit (settings_of d.run) (length e.positions) (length e.increments) (length e.gains) (length e.affinities) (length e.indices)
      (length e.offsets) (length F) nodes ≡ true → unpark_of (first_records k (park_of d forces ns t).target) e F nodes ≡ unparking (Ok k) (stored_again d e)
      (filled zero64 (sizes_of (settings_of d.run)).forces F)
  unfolding unpark_of
  reading-what-was-written i a e F nodes n r =
      let p = parks-all d forces ns t k a in
      let Z : List Float = replicate forces zero64 in
      let W = p.writes in
      let f = file_of d in
      let g : ℕ → ℕ = word_in f in
      let h = head d Z ns t W g (file-word d i) in
      ap (λ (f : List ℕ). unpark_of f e F nodes) (front-is d forces ns t k a)
      ∙ rw (
        file-stands d Z ns t W i,
        room-again d Z ns t W g h e (length F) nodes n r,
        file-due d Z ns t W i,
        p.count,
        stored-again d Z ns t W g h (words_are d Z ns t W g (file-word d i)) (file-layout d Z ns t W i) e,
        forces-again d Z ns t W g h,
      )
