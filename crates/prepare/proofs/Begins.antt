-- Preparation that is not refused leaves an honest state: so demand 3 and its kin hold from there on. Assumes nothing.
use mathlib.Core.Path.{◌≡◌, refl, sym, subst, ◌∙◌}
use mathlib.Core.List.{List, [], ◌∷◌, ◌++◌}
use mathlib.Core.Bool.{true, false}
use Prim.Native.Nat.{ℕ, zero, suc, ◌+◌, ◌-◌, ◌*◌, ◌<◌, ◌≤◌}
use native.Mathlib.Omega.{arith}
use native.Mathlib.Nat.{le_refl, le_trans, mul_assoc}
use native.Mathlib.Decide.{ℕ_discrete}
use lib.Dec.{eqb}
use lib.ListN.{length, drop, length-append, length-drop}
use lib.Ieee.{Float}
use borrow.Author.Tests.{eq-eqb, ne_eqb, eqb-true, lt-ltb, le-leb}
use Rattle.laws.specs.Area.{num, zero64, one64}
use Rattle.laws.specs.Joined.{joined, each}
use Rattle.laws.proofs.Bools.{by_bool}
use Rattle.laws.proofs.Parts.{length-pasted}
use Rattle.laws.proofs.Laid.{singles-size, laid-size}
use Rattle.areas.specs.Filled.{filled}
use Rattle.areas.proofs.Front.{filled-size}
use Rattle.affinity_lists.specs.Lists.{Rows, Areas, areas, list_of, weights_of, list_start, links_of}
use Rattle.affinity_lists.proofs.Linked.{length-weights, links-most}
use Rattle.affinity_lists.proofs.Theorems.{offsets-first, offsets-rise, links-between, listed_below}
use Rattle.affinity.specs.Exact.{affinity_of, exact_of}
use Rattle.affinity.specs.Neighbours.{rows_of, neighbours_listed}
use Rattle.affinity.proofs.Kept.{weights-kept, indices-kept}
use Rattle.affinity.proofs.Listed.{not-all-neighbours}
use Rattle.affinity.proofs.Named.{rows_named}
use Rattle.tree_node.specs.declared.Cell.{Cell}
use Rattle.tree_node.specs.Arena.{nodes_of}
use Rattle.tree_node.proofs.Told.{nodes-length}
use Rattle.run_record.specs.declared.Settings.{Settings}
use Rattle.run_record.specs.declared.Run.{Run}
use Rattle.run_record.specs.Record.{is_tree, state_fits, k_of, sizes_of, fresh_run}
use Rattle.run_record.proofs.Laws.{per-some}
use Rattle.run_entry.specs.State.{State, state}
use Rattle.run_entry.specs.Entry.{offset_fine, index_fine, GoodAreas, Good}
use Rattle.run_entry.proofs.Laws.{links-is}
use Rattle.descent.specs.Descent.{work, work_number, is_last, whole_units, works}
use Rattle.descent.specs.Honest.{Honest, Roomy}
use Rattle.descent.specs.Longer.{Holds, lent_arena}
use Rattle.descent.proofs.Theorems.{OneCall, demand-three, SoMany, after-each, stays-honest, ends-in-time, never-14, Refused as RefusedCall, refusal}
use Rattle.descent.proofs.Longer.{GoesOn}
use Rattle.descent.proofs.Lent.{goes-on-lent}
use Rattle.std.specs.Prelude.{Result, Ok, Err}
use Rattle.prepare.specs.Prepare.{Lent, lengths_of, prepare_fault, routed_in, begun_areas, prepared, memory_of}
use Rattle.prepare.proofs.Laws.{Passed, passed, twice, routed-tree, routed-exact}

-- ---- areas keep their lengths

module _ {A : Type 0} where
  -- m values in front, then what stood there
  front-size : (w l : List A) (m : ℕ) → length w ≡ m → m ≤ length l → length (w ++ drop m l) ≡ length l
  front-size w l m e h = length-append w (drop m l) ∙ (let d = length-drop m l in omega (arith, e, d))

exact-size : (t : List Float) (n f : ℕ) (p : Float) (l : List Float) → n * n ≤ length l → length (exact_of t n f p l) ≡ length l
unfolding exact_of
exact-size t n f p l h = front-size (joined (λ i. each (λ j. affinity_of t n f p i j) n) n) l (n * n)
    (laid-size n (λ i. each (λ j. affinity_of t n f p i j) n) n (λ i q. singles-size (λ j. affinity_of t n f p i j) n)) h

-- ---- the lists as preparation leaves them

module _ (s : Settings) (t : List Float) (two : 2 ≤ s.n) (a : Areas) where
  abbrev k : ℕ
  k = k_of s

  -- the areas with the rows at their front
  abbrev b : Areas
  b = rows_of t s.n s.f k s.perplexity a

  abbrev made : Areas
  made = neighbours_listed t s.n s.f s.perplexity a

  few : k < s.n
  few = not-all-neighbours s.perplexity s.n two

  rows_ok : Rows s.n k b.indices
  rows_ok = rows_named t s.n s.f k s.perplexity a.indices few

  links-in : (l : ℕ) → 2 * (s.n * k) ≤ l → links_of s.n k b.indices ≤ l
  links-in l h = le_trans (links-most s.n k b.indices rows_ok) h

  weights-size : 2 * (s.n * k) ≤ length a.weights → length made.weights ≡ length a.weights
  weights-size h = rw (weights-kept t s.n s.f s.perplexity two a)
      (front-size (joined (weights_of s.n k b.indices b.weights) s.n) a.weights (links_of s.n k b.indices)
      (length-weights s.n k b.indices b.weights s.n) (links-in (length a.weights) h))

  indices-size : 2 * (s.n * k) ≤ length a.indices → length made.indices ≡ length a.indices
  indices-size h = rw (indices-kept t s.n s.f s.perplexity two a)
      (front-size (joined (list_of s.n k b.indices) s.n) a.indices (links_of s.n k b.indices) refl (links-in (length a.indices) h))

  offsets-size : s.n + 1 ≤ length a.offsets → length made.offsets ≡ length a.offsets
  unfolding neighbours_listed
  offsets-size h = front-size (joined (λ i. list_start s.n k b.indices i ∷ []) (suc s.n)) a.offsets (suc s.n) (singles-size (list_start s.n k b.indices) (suc s.n)) (omega arith)

  first-is : num made.offsets 0 ≡ 0
  unfolding neighbours_listed
  first-is = offsets-first s.n k b rows_ok

  rises : (i : ℕ) → i < s.n → num made.offsets i ≤ num made.offsets (i + 1)
  unfolding neighbours_listed
  rises i h = omega (arith, offsets-rise s.n k b rows_ok i h)

  last-most : num made.offsets s.n ≤ 2 * (s.n * k)
  unfolding neighbours_listed
  last-most = (links-between s.n k b rows_ok).1

  to_last : (d i : ℕ) → i + d ≡ s.n → num made.offsets i ≤ num made.offsets s.n
  to_last zero i h = let e : i ≡ s.n = omega arith in rw e (le_refl (num made.offsets s.n))
  to_last (suc d) i h = le_trans (rises i (omega arith)) (to_last d (i + 1) (omega arith))

  offset-fine : (i : ℕ) → i < s.n + 1 → offset_fine made.offsets (sizes_of s).links i ≡ true
  unfolding offset_fine
  offset-fine i h =
      elim (ℕ_discrete i 0) [
        | yes e ↦ rw (eq-eqb i 0 e) (eq-eqb (num made.offsets i) 0 (rw e first-is))
        | no e ↦ (let up : num made.offsets (i - 1) ≤ num made.offsets (i - 1 + 1) = rises (i - 1) (omega (arith, e)) in
            let z : i - 1 + 1 ≡ i = omega (arith, e) in
            let last = to_last (s.n - i) i (omega arith) in
            let m : 2 * s.n * k ≡ 2 * (s.n * k) = mul_assoc 2 s.n k in
            rw (
              ne_eqb i 0 e,
              le-leb (num made.offsets (i - 1)) (num made.offsets i) (rw z at up),
              le-leb (num made.offsets i) (sizes_of s).links (omega (arith, last, last-most, links-is s, m)),
            ))
      ]

  index-fine : (i : ℕ) → i < num made.offsets s.n → index_fine made.indices s.n i ≡ true
  unfolding index_fine neighbours_listed
  index-fine i h = lt-ltb (num made.indices i) s.n (listed_below s.n k b rows_ok i h)

-- ---- the state

module _ (s : Settings) (table start : List Float) (cs : List Cell) (l : Lent) where
  abbrev nodes : ℕ
  nodes = length (nodes_of cs)

  abbrev A : Lent
  A = begun_areas s table start l

  abbrev before : Areas
  before = areas l.affinities l.indices l.offsets l.row_values l.row_indices

  abbrev first : State
  first = state (fresh_run s) (memory_of A cs)

  tree_is : is_tree s.method ≡ true → routed_in s table l ≡ neighbours_listed table s.n s.f s.perplexity before
  tree_is t = sym (routed-tree s table before t)

  exact-is : is_tree s.method ≡ false → routed_in s table l ≡ areas (exact_of table s.n s.f s.perplexity l.affinities) l.indices l.offsets
      (filled zero64 s.n l.row_values) (filled 0 s.n l.row_indices)
  exact-is t = sym (routed-exact s table before t refl refl refl)

  module _ (p : Passed s table start (lengths_of l nodes)) where
    abbrev P : GoodAreas s (length l.positions) (length l.increments) (length l.gains) (length l.affinities) (length l.indices) (length l.offsets) (length l.forces) nodes
    P = p.areas

    areas-begin : GoodAreas s (length A.positions) (length A.increments) (length A.gains) (length A.affinities) (length A.indices) (length A.offsets) (length A.forces) nodes
    areas-begin = record {
      positions-long = rw (length-pasted start l.positions 0 (s.n * s.c) (omega (arith, p.start_is)) P.positions-long) P.positions-long;
      increments-long = rw (filled-size zero64 (s.n * s.c) l.increments P.increments-long) P.increments-long;
      gains-long = rw (filled-size one64 (s.n * s.c) l.gains P.gains-long) P.gains-long;
      forces-long = rw (filled-size zero64 (s.n * (2 * s.c + 1)) l.forces P.forces-long) P.forces-long;
      tree-long = λ t. (let z = P.tree-long t in
          let two = p.good.n-some in
          rw (tree_is t) (record {
            links-most = rw (weights-size s table two before (twice s.n (k_of s) (length l.affinities) z.links-most)) z.links-most;
            indices-most = rw (indices-size s table two before (twice s.n (k_of s) (length l.indices) z.indices-most)) z.indices-most;
            offsets-most = rw (offsets-size s table two before z.offsets-most) z.offsets-most;
            nodes-some = z.nodes-some;
          }));
      exact-long = λ t. rw (exact-is t) (rw (exact-size table s.n s.f s.perplexity l.affinities (P.exact-long t)) (P.exact-long t));
    }

    good-begin : Good first
    unfolding fresh_run state_fits
    good-begin = record {
      settings = p.good;
      counters = record { standing-fits = lt-ltb 0 s.iterations p.good.iterations-some; phase-below = (let q = per-some s.method s.n in omega arith); total = omega arith };
      areas = areas-begin;
      contents = λ t. rw (tree_is t) (record {
        each-offset = offset-fine s table p.good.n-some before;
        each_index = index-fine s table p.good.n-some before;
        tree = λ n. absurd (n refl);
      });
    }

    honest-begin : Honest first
    unfolding fresh_run
    honest-begin = record { good = good-begin; grown = λ t n. absurd (n refl) }

-- ---- THEOREM 1, where a run begins: preparation that is not refused leaves an honest state

module _ (s : Settings) (table start : List Float) (cs : List Cell) (l : Lent) (run : Run) (ready : (prepared s table start (length cs) l).answer ≡ Ok run) where
  -- record and areas as preparation leaves them
  abbrev pub begun_state : State
  begun_state = state run (memory_of (prepared s table start (length cs) l).areas cs)

  pub preparation-honest : Honest begun_state
  unfolding prepared
  preparation-honest =
      let fault = prepare_fault s table start (lengths_of l (length cs)) in
      by_bool (Honest begun_state) (eqb fault 0)
      (λ e. let q : ◌≡◌ {A = Result Run ℕ} (Ok (fresh_run s)) (Ok run) = rw e at ready in
      let same : run ≡ fresh_run s = cc in
      rw (e, same) (honest-begin s table start cs l
      (subst (λ (x : ℕ). Passed s table start (lengths_of l x)) (sym (nodes-length cs))
      (passed s table start (lengths_of l (length cs)) (eqb-true fault 0 e)))))
      (λ e. absurd (let q : ◌≡◌ {A = Result Run ℕ} (Err fault) (Ok run) = rw e at ready in let z : ◌≡◌ {A = ℕ} 0 1 = cc in omega arith))

  -- THEOREM 2 from there on: calls one after the other, the last of at least 1, leave everything where one call with the sum leaves it
  pub demand-three-begun : (bs : List ℕ) (b : ℕ) → 1 ≤ b → OneCall bs b begun_state
  demand-three-begun bs b h = demand-three bs b begun_state preparation-honest h

  -- and after each call record and memory are those of so many units
  pub after-each-begun : (bs : List ℕ) → SoMany bs begun_state
  after-each-begun bs = after-each bs begun_state

  -- THEOREM 3 from there on: one call with all units gives stopped, finished, 14 or 15
  pub ends-in-time-begun : (b : ℕ) → whole_units begun_state ≤ b → is_last (work b begun_state).answer ≡ true
  ends-in-time-begun b h = ends-in-time b begun_state preparation-honest h

  -- THEOREM 4 from there on: with room for all splits no call is refused by 14
  pub never-14-begun : Roomy run.settings (length cs) → (bs : List ℕ) (b : ℕ) → work_number (work b (works bs begun_state)).answer ≡ 14 → ⊥
  never-14-begun room bs b e = never-14 bs b begun_state preparation-honest (rw (nodes-length cs) room) e

  -- a call leaves the arena in the cells ds; with further cells behind them the run goes on as one does that had them from the start
  pub goes-on-lent-begun : (more : List Cell) (b c : ℕ) (ds : List Cell) → Holds ds (work b begun_state).left →
      GoesOn b c begun_state (lent_arena (ds ++ more) (work b begun_state).left) (lent_arena (cs ++ more) begun_state)
  goes-on-lent-begun more b c ds h = goes-on-lent more b c begun_state preparation-honest cs ds refl h

  -- THEOREM 5 from there on: a call that is refused leaves the state of the units that it tells
  pub refusal-begun : (bs : List ℕ) (b : ℕ) → (work_number (work b (works bs begun_state)).answer ≡ 0 → ⊥) → RefusedCall b (works bs begun_state)
  refusal-begun bs b n = refusal b (works bs begun_state) (stays-honest bs begun_state preparation-honest).good n
