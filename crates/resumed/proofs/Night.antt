-- A run that is parked, and read again from the bytes that were written, goes on as the run that was not. Assumes nothing.
--     read-back                    what is read has in common with the run what the theorems of `overnight` ask for
--     overnight-goes-on            call by call, for any budgets
--     demand-three-overnight       budgets before and after it, beside one call with their sum
use mathlib.Core.Path.{◌≡◌, refl, sym, ap, subst, ◌∙◌}
use mathlib.Core.List.{List, map}
use mathlib.Core.Bool.{Bool, true, false}
use Prim.Native.Nat.{ℕ, ◌+◌, ◌*◌, ◌<◌, ◌≤◌}
use native.Mathlib.Omega.{arith}
use native.Mathlib.Nat.{zero-add}
use lib.Dec.{eqb, leb}
use lib.ListN.{length, take, drop, length-append}
use lib.Seq.{length-take-le}
use lib.Ieee.{Float, nan}
use Rattle.laws.specs.Area.{num, bits, zero64}
use Rattle.laws.specs.Joined.{pasted}
use Rattle.laws.proofs.Bools.{and_right}
use Rattle.laws.proofs.Joined.{length-map, get_or-map-in}
use Rattle.laws.proofs.Parts.{get_or-pasted}
use Rattle.areas.specs.Filled.{filled}
use Rattle.little.specs.Little.{word_in}
use Rattle.tree_node.specs.declared.Node.{Node}
use Rattle.run_record.specs.Record.{is_tree, k_of, sizes_of}
use Rattle.run_entry.specs.State.{State}
use Rattle.run_entry.specs.Entry.{areas_fit}
use Rattle.run_entry.proofs.Laws.{areas-fine}
use Rattle.record_words.specs.RecordWords.{run_of, settings_of, method_of}
use Rattle.record_words.proofs.Laws.{method-tree}
use Rattle.parked.specs.declared.Layout.{Layout}
use Rattle.parked.specs.Parked.{Stored, links_in, layout_in}
use Rattle.std.specs.Prelude.{Ok}
use Rattle.unpark.specs.Unpark.{settings_read, has_room, Unparking, unparking, unpark_of}
use Rattle.parking.specs.Held.{state_in}
use Rattle.parking.specs.Again.{record_again, stored_again}
use Rattle.parking.proofs.Entries.{Writes, parks-writes}
use Rattle.parking.proofs.Written.{Lying, lying, method-most, lists-in}
use Rattle.parking.proofs.Returned.{reading-what-was-written}
use Rattle.parking.proofs.Rewritten.{reads}
use Rattle.descent.specs.Descent.{works}
use Rattle.descent.specs.Honest.{Honest}
use Rattle.overnight.specs.Across.{SameTo, SameLists, SameRun, ReadBack}
use Rattle.overnight.proofs.Theorems.{Overnight, goes-on-overnight, OneCallAcross, demand-three-across-a-parking}
use Rattle.resumed.specs.Night.{night_bytes, morning, morning_state, Night}
use Rattle.resumed.proofs.Honest.{what-is-read-is-honest}

-- ---- what was pasted stands there

pasted-num : (v r : List ℕ) (m t : ℕ) → t < m → m ≤ length v → num v t ≡ num (pasted v 0 m r) t
pasted-num v r m t h l = sym (get_or-pasted v r 0 m t 0 h (rw (zero-add m) l) ∙ ap (num v) (zero-add t))

pasted-long : (v r : List ℕ) (m : ℕ) → m ≤ length v → m ≤ length (pasted v 0 m r)
pasted-long v r m l = omega (arith, length-append (take m (drop 0 v)) (drop m r), length-take-le m (drop 0 v) l)

-- .. as values
pasted-same : (v r : List ℕ) (m : ℕ) → m ≤ length v → SameTo m (map bits v) (map bits (pasted v 0 m r))
pasted-same v r m l t h =
    get_or-map-in bits v t 0 nan (omega (arith, h, l))
    ∙ ap bits (pasted-num v r m t h l)
    ∙ sym (get_or-map-in bits (pasted v 0 m r) t 0 nan (omega (arith, h, pasted-long v r m l)))

-- ---- d, and d written and read again

module _ (d : Stored) (F : List Float) (ns : List Node) (t : List ℕ) (W : Writes d F ns t) (e : Stored) (Z : List Float) (ms : List Node) where
  abbrev w : List ℕ
  w = d.run

  abbrev l : Layout
  l = layout_in d.run d.offsets

  abbrev y : Lying l w d.offsets
  y = lying w d.offsets

  abbrev s : State
  s = state_in d F ns

  abbrev again : State
  again = state_in (stored_again d e) Z ms

  unmapped : (v : List ℕ) (m : ℕ) → m ≤ length (map bits v) → m ≤ length v
  unmapped v m h = omega (arith, h, length-map bits v)

  by_word : (b : Bool) → is_tree (method_of (num w 3)) ≡ b → eqb (num w 3) 1 ≡ b
  by_word b x = sym (method-tree (num w 3) (method-most d F ns t W)) ∙ x

  cells_same : (v r : List ℕ) → num w 0 * num w 2 ≤ length (map bits v) → SameTo (num w 0 * num w 2) (map bits v) (map bits (pasted v 0 l.cells r))
  cells_same v r h = rw y.cells_is (pasted-same v r (num w 0 * num w 2) (unmapped v (num w 0 * num w 2) h))

  -- the links of a Barnes-Hut run are listed within both areas
  links-in : (x : is_tree (method_of (num w 3)) ≡ true) (a : ℕ) → 2 * num w 0 * k_of (settings_of w) ≤ a → num d.offsets (num w 0) ≤ a
  unfolding settings_of
  links-in x a h = omega (arith, h, (lists-in d F ns t W (by_word true x)).most-links)

  links-are : is_tree (method_of (num w 3)) ≡ true → l.links ≡ num d.offsets (num w 0)
  unfolding links_in
  links-are x = rw (by_word true x) at y.links-are

  tree_is : (b : Bool) → is_tree (method_of (num w 3)) ≡ b → l.tree ≡ b
  tree_is b x = y.tree_is ∙ by_word b x

  lists-same : is_tree (method_of (num w 3)) ≡ true → SameLists (num w 0) (map bits d.affinities) again.memory.affinities d.indices
      again.memory.indices d.offsets again.memory.offsets
  unfolding stored_again run_of settings_of
  lists-same x =
      let a = W.good.areas.tree-long x in
      let n = num w 0 in
      let m = num d.offsets n in
      let q = tree_is true x in
      let held : l.held ≡ n + 1 = rw (by_word true x) at y.held-is in
      rw (q, held, links-are x) (record {
        offsets = λ k h. pasted-num d.offsets e.offsets (n + 1) k (omega (arith, h)) a.offsets-most;
        indices = λ k h. pasted-num d.indices e.indices m k h (links-in x (length d.indices) a.indices-most);
        weights = pasted-same d.affinities e.affinities m (unmapped d.affinities m (links-in x (length (map bits d.affinities)) a.links-most));
      })

  matrix-same : is_tree (method_of (num w 3)) ≡ false → SameTo (num w 0 * num w 0) (map bits d.affinities) again.memory.affinities
  unfolding stored_again run_of settings_of
  matrix-same x =
      let held : l.held ≡ num w 0 * num w 0 = rw (by_word false x) at y.held-is in
      rw (tree_is false x, held) (pasted-same d.affinities e.affinities (num w 0 * num w 0) (unmapped d.affinities (num w 0 * num w 0) (W.good.areas.exact-long x)))

  run-same : length ms ≡ length ns → SameRun s again
  unfolding stored_again record_again run_of settings_of
  run-same m = record {
    record_same = refl;
    angle = λ x. rw (by_word true x);
    positions = cells_same d.positions e.positions W.good.areas.positions-long;
    increments = cells_same d.increments e.increments W.good.areas.increments-long;
    gains = cells_same d.gains e.gains W.good.areas.gains-long;
    lists = lists-same;
    matrix = matrix-same;
    arena = sym m;
  }

  again-back : length ms ≡ length ns → ReadBack s again
  unfolding run_of
  again-back m = record { same = run-same m; border = W.between }

  -- a run that is written is honest: between two iterations no tree is asked for
  written-honest : Honest s
  unfolding run_of
  written-honest = record { good = W.good; grown = λ x q. absurd (q W.between) }

-- ---- THEOREMS

module _ (d : Stored) (F : List Float) (ns : List Node) (t : List ℕ) (k : ℕ) (e : Stored) (F' : List Float) (ns' : List Node) (N : Night d F ns t k e F' ns') where
  W : Writes d F ns t
  W = (parks-writes d F ns t k N.written).0

  all_read : morning d F ns t k e F' ns' ≡ unparking (Ok k) (stored_again d e) (filled zero64 (sizes_of (settings_of d.run)).forces F')
  all_read = reading-what-was-written d (length F) ns t k N.in_words N.written e F' (length ns') N.words_long N.areas-long

  -- What is read is the run that was parked, as `ReadBack` says it.
  pub read_back : ReadBack (state_in d F ns) (morning_state d F ns t k e F' ns')
  read_back = subst (λ (u : Unparking). ReadBack (state_in d F ns) (state_in u.left u.forces ns')) (sym all_read)
      (again-back d F ns t W e (filled zero64 (sizes_of (settings_of d.run)).forces F') ns' N.same-arena)

  -- .. and is honest
  pub read-back-honest : Honest (morning_state d F ns t k e F' ns')
  unfolding has_room
  read-back-honest =
      let f = night_bytes d F ns t k e F' ns' in
      let a : (unpark_of f e F' (length ns')).answer ≡ Ok k = ap (λ (u : Unparking). u.answer) all_read in
      let s = settings_read (word_in f) in
      let fits = areas_fit s (length e.positions) (length e.increments) (length e.gains) (length e.affinities) (length e.indices) (length e.offsets) (length F') (length ns') in
      let room = and_right (leb 14 (length e.run)) fits (reads f e F' (length ns') k a).room in
      what-is-read-is-honest f e F' (length ns') k a ns' (λ x. ((areas-fine s (length e.positions) (length e.increments) (length e.gains)
      (length e.affinities) (length e.indices) (length e.offsets) (length F') (length ns') room).tree-long x).nodes-some)

  -- Calls with bs, then one with b, on what was read, and on the run had it not been parked: each answers the same.
  -- After them positions, increments and gains hold the same values at their n·c places, and the record is the same but for nodes in use and an exact run's angle.
  -- From the next finish unit on the same holds of the forces that an iteration writes, and of a Barnes-Hut run's nodes in use with their number, and so of its whole record.
  -- Nothing more is asked of the run than that it was written: that shows it honest. Values are as the model has them, with one NaN.
  pub overnight-goes-on : (bs : List ℕ) (b : ℕ) → Overnight bs b (state_in d F ns) (morning_state d F ns t k e F' ns')
  overnight-goes-on bs b = goes-on-overnight bs b (state_in d F ns) (morning_state d F ns t k e F' ns') (written-honest d F ns t W e F' ns') read-back-honest.good read_back

  -- Demand 3: calls with early on the honest run s, which then lies in memory as d; the night; calls with late and one with b on what was read. One call on s
  -- with the sum of all budgets, or 2^32 − 1, leaves the same, as above, answers the same kind and tells as many units as they do together.
  pub demand-three-overnight : (early late : List ℕ) (b : ℕ) (s : State) → Honest s → works early s ≡ state_in d F ns → 1 ≤ b → OneCallAcross early late b s (morning_state d F ns t k e F' ns')
  demand-three-overnight early late b s g p h =
      demand-three-across-a-parking early late b s (morning_state d F ns t k e F' ns') g
      (subst (λ (x : State). ReadBack x (morning_state d F ns t k e F' ns')) (sym p) read_back) read-back-honest.good h
