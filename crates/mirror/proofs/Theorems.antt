-- Two exact runs from the same settings, table and areas, the start of the second with components turned: both are refused alike, or begin with states of which one shows the other. Assumes nothing.
use mathlib.Core.Path.{◌≡◌, refl, sym, ap, ◌∙◌}
use mathlib.Core.Logic.{inl, inr}
use mathlib.Core.List.{List}
use mathlib.Core.Bool.{Bool, true, false, cond}
use Prim.Native.Nat.{ℕ, ◌+◌, ◌*◌, ◌%◌, ◌<◌, ◌≤◌}
use native.Mathlib.Omega.{arith}
use native.Mathlib.Nat.{zero-add}
use lib.Dec.{eqb}
use lib.ListN.{length, replicate, take, drop, length-replicate, get_or-replicate, get_or-append, get_or-eq_default}
use lib.Seq.{length-take-le}
use lib.Ieee.{Float, nan}
use borrow.Author.Tests.{eqb-true}
use Rattle.laws.specs.Area.{at, zero64}
use Rattle.laws.specs.Joined.{pasted}
use Rattle.laws.proofs.Bools.{by_bool}
use Rattle.laws.proofs.Every.{every-same}
use Rattle.laws.proofs.Numbers.{order}
use Rattle.laws.proofs.Joined.{tail_at}
use Rattle.laws.proofs.Parts.{length-pasted, get_or-pasted}
use Rattle.areas.specs.Filled.{filled}
use Rattle.elementary.specs.Limits.{in_domain, large}
use Rattle.tree_node.specs.declared.Cell.{Cell}
use Rattle.run_record.specs.declared.Settings.{Settings}
use Rattle.run_record.specs.declared.Run.{Run}
use Rattle.run_record.specs.Record.{is_tree, fresh_run}
use Rattle.run_entry.specs.State.{State}
use Rattle.run_rooms.proofs.Places.{cells-forces}
use Rattle.prepare.specs.declared.Lengths.{Lengths}
use Rattle.std.specs.Prelude.{Result, Ok, Err}
use Rattle.prepare.specs.Prepare.{Lent, lengths_of, all_inside, prepare_fault, begun_areas, prepared, memory_of}
use Rattle.prepare.proofs.Laws.{Passed, passed}
use Rattle.prepare.proofs.Begins.{begun_state}
use Rattle.mirror_values.specs.Values.{Shows}
use Rattle.mirror_values.specs.Shown.{turned_start, ShowsAll}
use Rattle.mirror_values.proofs.Shows.{shows-zero, shows-up-to}
use Rattle.mirror_values.proofs.Starts.{turned-long, turned-shows}
use Rattle.mirror.specs.Mirror.{ShowsMemory, ShowsState}

-- ---- the tests of preparation

module _ (turns : ℕ → Bool) (c : ℕ) (start : List Float) where
  -- a value is in the domain with either sign
  domain-same : (i : ℕ) → in_domain (at start i) ≡ in_domain (at (turned_start turns c start) i)
  domain-same i = elim (order i (length start)) [
    | inl l ↦ rw (get_or-eq_default start nan {n = i} l, get_or-eq_default (turned_start turns c start) nan {n = i} (rw (turned-long turns c start) l))
    | inr l ↦ shows-up-to (turned-shows turns c start i l) large
  ]

  fault-same : (s : Settings) (table : List Float) (l : Lengths) → prepare_fault s table start l ≡ prepare_fault s table (turned_start turns c start) l
  unfolding prepare_fault
  fault-same s table l =
      let e : all_inside start (s.n * s.c) ≡ all_inside (turned_start turns c start) (s.n * s.c) = every-same (λ i. in_domain (at start i)) (λ i. in_domain
      (at (turned_start turns c start) i)) (s.n * s.c) (λ i _. domain-same i) in
      rw (e, turned-long turns c start)

-- ---- where a run begins

-- zeros in front show themselves
zeros-front : (turns : ℕ → Bool) (c m k : ℕ) (l : List Float) → m ≤ k → ShowsAll turns c m (filled zero64 k l) (filled zero64 k l)
zeros-front turns c m k l h = record { long = refl; shown = λ i q. rw (front i (omega arith)) (shows-zero (turns (i % c))); past = λ i _. refl }
  where
    front : (i : ℕ) → i < k → at (filled zero64 k l) i ≡ zero64
    front i q = get_or-append (replicate k zero64) (drop k l) nan i (rw (length-replicate k zero64) q) ∙ get_or-replicate k i zero64 nan q

-- two starts of m values that show each other, each written over the front of an area
starts-front : (turns : ℕ → Bool) (c m : ℕ) (x x' l : List Float) → length x ≡ m → length x' ≡ m → m ≤ length l → ((i : ℕ) → i < m →
    Shows (turns (i % c)) (at x i) (at x' i)) → ShowsAll turns c m (pasted x 0 m l) (pasted x' 0 m l)
starts-front turns c m x x' l e e' h p = record {
  long = length-pasted x l 0 m (omega arith) h ∙ sym (length-pasted x' l 0 m (omega arith) h);
  shown = λ i q. rw (get_or-pasted x l 0 m i nan q (omega arith), get_or-pasted x' l 0 m i nan q (omega arith), zero-add i) (p i q);
  past = λ i q. sym (tail x e i q) ∙ tail x' e' i q;
}
  where
    tail : (x : List Float) → length x ≡ m → (i : ℕ) → m ≤ i → at l i ≡ at (pasted x 0 m l) i
    tail x e i q = tail_at (take m x) l (pasted x 0 m l) m i nan refl (length-take-le m x (omega arith)) q

-- ---- preparation, with a start x

module _ (s : Settings) (table : List Float) (cs : List Cell) (l : Lent) where
  abbrev fault_with : List Float → ℕ
  fault_with x = prepare_fault s table x (lengths_of l (length cs))

  answer-is : (x : List Float) → (prepared s table x (length cs) l).answer ≡ cond (eqb (fault_with x) 0) (Ok (fresh_run s)) (Err (fault_with x))
  unfolding prepared
  answer-is x = by_bool ((prepared s table x (length cs) l).answer ≡ cond (eqb (fault_with x) 0) (Ok (fresh_run s)) (Err (fault_with x))) (eqb (fault_with x) 0) (λ e. rw e) (λ e. rw e)

  areas-ready : (x : List Float) → eqb (fault_with x) 0 ≡ true → (prepared s table x (length cs) l).areas ≡ begun_areas s table x l
  unfolding prepared
  areas-ready x e = rw e

  areas-refused : (x : List Float) → eqb (fault_with x) 0 ≡ false → (prepared s table x (length cs) l).areas ≡ l
  unfolding prepared
  areas-refused x e = rw e

  -- what is ready has no fault, and the record of a fresh run
  ready-fine : (x : List Float) (run : Run) → (prepared s table x (length cs) l).answer ≡ Ok run → (eqb (fault_with x) 0 ≡ true) × (run ≡ fresh_run s)
  ready-fine x run ready = by_bool ((eqb (fault_with x) 0 ≡ true) × (run ≡ fresh_run s)) (eqb (fault_with x) 0)
      (λ e. (e, (let q : ◌≡◌ {A = Result Run ℕ} (Ok run) (Ok (fresh_run s)) = sym ready ∙ answer-is x ∙ rw e in cc)))
      (λ e. absurd (let q : ◌≡◌ {A = Result Run ℕ} (Ok run) (Err (fault_with x)) = sym ready ∙ answer-is x ∙ rw e in let z : ◌≡◌ {A = ℕ} 0 1 = cc in omega arith))

module _ (turns : ℕ → Bool) (s : Settings) (table start : List Float) (cs : List Cell) (l : Lent) where
  -- the start as the mirror shows it
  abbrev pub facing : List Float
  facing = turned_start turns s.c start

  abbrev fault : ℕ
  fault = fault_with s table cs l start

  fault-is : fault ≡ fault_with s table cs l facing
  fault-is = fault-same turns s.c start s table (lengths_of l (length cs))

  -- THEOREM: preparation answers the same, a record or a refusal
  pub preparations-agree : (prepared s table start (length cs) l).answer ≡ (prepared s table facing (length cs) l).answer
  preparations-agree = answer-is s table cs l start ∙ ap (λ (k : ℕ). cond (eqb k 0) (Ok (fresh_run s)) (Err k)) fault-is ∙ sym (answer-is s table cs l facing)

  -- THEOREM: refused, both leave every area as it was lent
  pub refusals-agree : (k : ℕ) → (prepared s table start (length cs) l).answer ≡ Err k → ((prepared s table start (length cs) l).areas ≡ l) × ((prepared s table facing (length cs) l).areas ≡ l)
  refusals-agree k told = by_bool (((prepared s table start (length cs) l).areas ≡ l) × ((prepared s table facing (length cs) l).areas ≡ l)) (eqb fault 0)
      (λ e. absurd (let q : ◌≡◌ {A = Result Run ℕ} (Err k) (Ok (fresh_run s)) = sym told ∙ answer-is s table cs l start ∙ rw e in let z : ◌≡◌ {A = ℕ} 0 1 = cc in omega arith))
      (λ e. (areas-refused s table cs l start e, areas-refused s table cs l facing (rw (← fault-is) e)))

  -- THEOREM: ready, both leave the same preparation rows, of either method
  pub rows_agree : (run : Run) → (prepared s table start (length cs) l).answer ≡ Ok run →
      ((prepared s table start (length cs) l).areas.row_values ≡ (prepared s table facing (length cs) l).areas.row_values) ×
      ((prepared s table start (length cs) l).areas.row_indices ≡ (prepared s table facing (length cs) l).areas.row_indices)
  rows_agree run ready = let e = (ready-fine s table cs l start run ready).0 in rw (areas-ready s table cs l start e, areas-ready s table cs l facing (rw (← fault-is) e)) (refl, refl)

  module _ (exact : is_tree s.method ≡ false) (run : Run) (ready : (prepared s table start (length cs) l).answer ≡ Ok run) where
    -- the run, and the one from the turned start
    abbrev pub run_begun : State
    run_begun = begun_state s table start cs l run ready

    abbrev pub mirror_begun : State
    mirror_begun = begun_state s table facing cs l run (sym preparations-agree ∙ ready)

    begun-areas : ShowsMemory turns s.n s.c (memory_of (begun_areas s table start l) cs) (memory_of (begun_areas s table facing l) cs)
    begun-areas =
        let p : Passed s table start (lengths_of l (length cs)) = passed s table start (lengths_of l (length cs)) (eqb-true fault 0 (ready-fine s table cs l start run ready).0) in
        let m = s.n * s.c in
        let f : ShowsAll turns s.c m (filled zero64 (s.n * (2 * s.c + 1)) l.forces)
        (filled zero64 (s.n * (2 * s.c + 1)) l.forces) = zeros-front turns s.c m (s.n * (2 * s.c + 1)) l.forces
        (omega (arith, cells-forces s.n s.c)) in
        record {
          positions = starts-front turns s.c m start facing l.positions p.start_is (turned-long turns s.c start ∙ p.start_is)
              p.areas.positions-long (λ i h. turned-shows turns s.c start i (omega (arith, p.start_is)));
          increments = zeros-front turns s.c m m l.increments (omega arith);
          forces = f;
          total = refl;
          gains = refl;
          affinities = refl;
          indices = refl;
          offsets = refl;
          nodes = refl;
        }

    -- THEOREM: what both begin with
    pub preparation-mirrored : ShowsState turns run_begun mirror_begun
    unfolding fresh_run
    preparation-mirrored =
        let e = ready-fine s table cs l start run ready in
        let e' : eqb (fault_with s table cs l facing) 0 ≡ true = rw (← fault-is) e.0 in
        record {
          same-record = refl;
          exact = rw e.1 exact;
          areas = rw (e.1, areas-ready s table cs l start e.0, areas-ready s table cs l facing e') begun-areas;
        }
