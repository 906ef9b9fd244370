-- A run is written exactly where its words are a record, the state that they are is in good order and between two iterations, 15 bars no value, and the target has room. Assumes nothing.
use Rattle.std.specs.Prelude.{Ok, Err}
use mathlib.Core.Path.{◌≡◌, refl, sym, ap, ◌∙◌}
use mathlib.Core.List.{List}
use mathlib.Core.Bool.{Bool, true, false, cond, not, true≢false}
use Prim.Native.Nat.{ℕ, ◌*◌, ◌≤◌}
use lib.Dec.{eqb, ltb}
use lib.ListN.{length, replicate, length-replicate}
use lib.Ieee.{Float}
use borrow.Author.Tests.{eq-eqb, eqb-true, le-ltb, ltb-false, not-false}
use Rattle.laws.specs.Area.{num, bits, zero64}
use Rattle.laws.proofs.Bools.{by_bool}
use Rattle.laws.proofs.Joined.{length-map}
use Rattle.tree_node.specs.declared.Node.{Node}
use Rattle.run_entry.specs.Entry.{Found, is_fine, by_tests, fault_of, Good}
use Rattle.run_entry.proofs.Laws.{fault-fine, fault-good}
use Rattle.record_words.specs.RecordWords.{run_fine}
use Rattle.fault_words.specs.FaultWords.{unread_fault}
use Rattle.words_entry.specs.WordsEntry.{words_fault}
use Rattle.parked.specs.declared.Layout.{Layout}
use Rattle.parked.specs.Layout.{records_in}
use Rattle.parked.specs.Parked.{Stored, layout_in}
use Rattle.park.specs.declared.ParkFault.{ParkFault}
use Rattle.park.specs.declared.ParkFault.TheVariants.{Inside, Barred, Short, Bad}
use Rattle.park.specs.Park.{calm_state, Parking, parking, parked_into, park_tested, park_of}
use Rattle.parking.specs.Held.{state_in}

-- ---- the entry tests

module _ (d : Stored) (F : List Float) (ns : List Node) where
  abbrev found : Found
  found = words_fault d.run (length d.positions) (length d.increments) (length d.gains) (length d.affinities) (length F) d.indices d.offsets ns

  found-is : found ≡ cond (run_fine d.run) (fault_of (state_in d F ns)) (Err (unread_fault d.run))
  unfolding words_fault fault_of
  found-is = rw (length-map bits d.positions, length-map bits d.increments, length-map bits d.gains, length-map bits d.affinities)

  entry-fine : is_fine found ≡ true → (run_fine d.run ≡ true) × Good (state_in d F ns)
  entry-fine e = by_bool _ (run_fine d.run)
      (λ t. (t, fault-fine (state_in d F ns) (rw t at (sym (ap is_fine found-is) ∙ e))))
      (λ t. absurd (true≢false (sym (rw t at (sym (ap is_fine found-is) ∙ e)))))

  entry-good : run_fine d.run ≡ true → Good (state_in d F ns) → found ≡ Ok tt
  entry-good t g = found-is ∙ rw (t, fault-good (state_in d F ns) g)

-- ---- the answer

pub record Writes (d : Stored) (F : List Float) (ns : List Node) (t : List ℕ) : Type 0 where
  pub read : run_fine d.run ≡ true
  pub good : Good (state_in d F ns)
  pub between : num d.run 11 ≡ 0
  pub calm-all : calm_state (layout_in d.run d.offsets).cells d.positions d.increments d.gains ≡ true
  pub room : 8 * (layout_in d.run d.offsets).end ≤ length t

passes : (b : Bool) (x y : Parking) (k : ℕ) (u : ParkFault) → x.answer ≡ Err u → (cond b x y).answer ≡ Ok k → (b ≡ false) × (y.answer ≡ Ok k)
passes true x y k u n e = cc
passes false x y k u n e = (refl, e)

passes-tests : (f : Found) (t : List ℕ) (y : Parking) (k : ℕ) → (by_tests f y (λ b. parking (Err (Bad b)) t)).answer ≡ Ok k → (is_fine f ≡ true) × (y.answer ≡ Ok k)
passes-tests (Ok u) t y k e = (refl, e)
passes-tests (Err b) t y k e = cc

module _ (d : Stored) (F : List Float) (ns : List Node) (t : List ℕ) where
  abbrev lies : Layout
  lies = layout_in d.run d.offsets

  abbrev pub written_into : Parking
  written_into = parking (Ok (records_in lies)) (parked_into lies d t)

  pub writes-parks : Writes d F ns t → park_of d (length F) ns t ≡ written_into
  unfolding park_of park_tested
  writes-parks w = rw (entry-good d F ns w.read w.good, eq-eqb (num d.run 11) 0 w.between, w.calm-all, le-ltb (length t) (8 * lies.end) w.room)

  pub parks-writes : (k : ℕ) → (park_of d (length F) ns t).answer ≡ Ok k → Writes d F ns t × (records_in lies ≡ k)
  unfolding park_of park_tested
  parks-writes k e =
      let f = found d F ns in
      let e4 = cond (ltb (length t) (8 * lies.end)) (parking (Err Short) t) written_into in
      let e3 = cond (not (calm_state lies.cells d.positions d.increments d.gains)) (parking (Err Barred) t) e4 in
      let e2 = cond (not (eqb (num d.run 11) 0)) (parking (Err Inside) t) e3 in
      let a = passes-tests f t e2 k e in
      let b = passes (not (eqb (num d.run 11) 0)) (parking (Err Inside) t) e3 k _ refl a.1 in
      let c = passes (not (calm_state lies.cells d.positions d.increments d.gains)) (parking (Err Barred) t) e4 k _ refl b.1 in
      let s = passes (ltb (length t) (8 * lies.end)) (parking (Err Short) t) written_into k _ refl c.1 in
      let g = entry-fine d F ns a.0 in (
        record {
          read = g.0;
          good = g.1;
          between = eqb-true (num d.run 11) 0 (not-false (eqb (num d.run 11) 0) b.0);
          calm-all = not-false (calm_state lies.cells d.positions d.increments d.gains) c.0;
          room = ltb-false (length t) (8 * lies.end) s.0;
        },
        cc s.1,
      )

-- with so many forces
pub record ParksAll (d : Stored) (forces : ℕ) (ns : List Node) (t : List ℕ) (k : ℕ) : Type 0 where
  pub writes : Writes d (replicate forces zero64) ns t
  pub count : records_in (layout_in d.run d.offsets) ≡ k
  pub same : park_of d forces ns t ≡ written_into d (replicate forces zero64) ns t

pub parks-all : (d : Stored) (forces : ℕ) (ns : List Node) (t : List ℕ) (k : ℕ) → (park_of d forces ns t).answer ≡ Ok k → ParksAll d forces ns t k
parks-all d forces ns t k e =
    let F : List Float = replicate forces zero64 in
    let n : length F ≡ forces = length-replicate forces zero64 in
    let w = parks-writes d F ns t k (ap (λ (x : ℕ). (park_of d x ns t).answer) n ∙ e) in
    record { writes = w.0; count = w.1; same = ap (λ (x : ℕ). park_of d x ns t) (sym n) ∙ writes-parks d F ns t w.0 }
