-- What a removal leaves is honest: so demand 3 and its kin hold from there on, the removal in preparation's place. Assumes nothing.
use mathlib.Core.Path.{◌≡◌, refl, sym, ap, subst, ◌∙◌}
use mathlib.Core.List.{List, ◌++◌}
use mathlib.Core.Bool.{true}
use Prim.Native.Nat.{ℕ, ◌+◌, ◌-◌, ◌*◌, ◌<◌, ◌≤◌, min, max}
use native.Mathlib.Omega.{arith}
use native.Mathlib.Decide.{ℕ_discrete}
use native.Mathlib.Nat.{le_refl, mul-le-mul}
use lib.ListN.{length, drop, replicate, get_or-append}
use lib.Ieee.{Float, binary64, mul}
use borrow.Author.Tests.{eq-eqb, ne_eqb, lt-ltb, le-leb, ltb-false}
use Rattle.laws.specs.Area.{num, bits}
use Rattle.laws.proofs.Joined.{length-map}
use Rattle.elementary.specs.Limits.{ceil_of, three64, neighbours_of}
use Rattle.run_record.specs.declared.Run.{Run}
use Rattle.run_record.specs.declared.Settings.{Settings}
use Rattle.tree_node.specs.declared.Node.{Node}
use Rattle.run_record.specs.Record.{is_tree, k_of, sizes_of}
use Rattle.run_record.proofs.Laws.{per-some}
use Rattle.run_entry.specs.State.{State}
use Rattle.run_entry.specs.Entry.{offset_fine, index_fine, GoodCounters, GoodAreas, GoodContents, Good}
use Rattle.take_gone.specs.Gone.{survivors, Climbs}
use Rattle.take_gone.proofs.Left.{survivors-climb}
use Rattle.take_rows.specs.Rows.{shrunk, Staying}
use Rattle.take_rows.proofs.Survive.{survivors-kept}
use Rattle.take_lists.specs.Packed.{packed_indices, packed_offsets, links_left, Listed}
use Rattle.take_lists.proofs.Bounds.{lists-rise, packed-offsets-size}
use Rattle.take_lists.proofs.Theorems.{packed-offsets-end, packed-listed, packed-named}
use Rattle.std.specs.Prelude.{Ok}
use Rattle.take_left.specs.Outlook.{thinned, thinned_run, crowded}
use Rattle.take_left.proofs.Judged.{thinned-fine}
use Rattle.take_out.specs.TakeOut.{Holdings, TookOut, state_held, left_behind, indices_after, offsets_after, packed_areas, take_out, take_number}
use Rattle.take_out.proofs.Calls.{words-listed}
use Rattle.descent.specs.Descent.{work, work_number, is_last, whole_units, works}
use Rattle.descent.specs.Honest.{Honest, Roomy}
use Rattle.descent.proofs.Theorems.{OneCall, demand-three, SoMany, after-each, stays-honest, ends-in-time, never-14, Refused, refusal}
use Rattle.taking.specs.Room.{AreasRoom}
use Rattle.taking.specs.Stretches.{Reached, begun, called, thinned_to}
use Rattle.taking.proofs.Sizes.{areas-keep-sizes, room-left}
use Rattle.taking.proofs.Accepted.{TakeEntered, refused-state, took_from, Accepted, accepted, no-number-left}

-- ---- fewer samples have no more neighbours

fewer-neighbours : (p : Float) (m n : ℕ) → m ≤ n → neighbours_of p m ≤ neighbours_of p n
unfolding neighbours_of
fewer-neighbours p m n h = fewer (ceil_of (mul binary64 three64 p) + 1) m n h
  where
    fewer : (a m n : ℕ) → m ≤ n → max 1 (min a (m - 1)) ≤ max 1 (min a (n - 1))
    fewer a m n h = omega arith

fewer-links : (s : Settings) (m : ℕ) → m ≤ s.n → 2 * m * k_of (thinned s m) ≤ 2 * s.n * k_of s
unfolding thinned
fewer-links s m h = mul-le-mul (twice m s.n h) (fewer-neighbours s.perplexity m s.n h)
  where
    twice : (m n : ℕ) → m ≤ n → 2 * m ≤ 2 * n
    twice m n h = omega arith

-- ---- what the entry tests have shown, of the areas as words

pub entered-room : (r : Run) (h : Holdings) (ns : List Node) → TakeEntered r h ns → AreasRoom r.settings h
entered-room r h ns e = record {
  positions-room = e.good.areas.positions-long;
  increments-room = omega (arith, e.good.areas.increments-long, length-map bits h.increments);
  gains-room = omega (arith, e.good.areas.gains-long, length-map bits h.gains);
  forces-room = e.good.areas.forces-long;
  table-room = e.table-long;
  old-room = e.old-long;
  lists-room = words-listed r h ns e.good;
  square-room = λ b. omega (arith, e.good.areas.exact-long b, length-map bits h.affinities);
}

-- ---- tests of what is left

offset-fine : {m w x : ℕ} {O : List ℕ} {most : ℕ} → Listed m w x O → num O m ≤ most → (i : ℕ) → i < m + 1 → offset_fine O most i ≡ true
unfolding offset_fine
offset-fine {m} {w} {x} {O} {most} l h i k = elim (ℕ_discrete i 0) [
  | yes e ↦ rw (eq-eqb i 0 e) (eq-eqb (num O i) 0 (ap (num O) e ∙ l.offsets-begin))
  | no e ↦
      let z : i - 1 + 1 ≡ i = omega (arith, e) in
      let up : num O (i - 1) ≤ num O (i - 1 + 1) = l.offsets-rise (i - 1) (omega (arith, e)) in
      rw (ne_eqb i 0 e, le-leb (num O (i - 1)) (num O i) (rw z at up), le-leb (num O i) most (omega (arith, lists-rise l i m (omega arith) (le_refl m), h)))
]

index-fine : (I : List ℕ) (n i : ℕ) → num I i < n → index_fine I n i ≡ true
unfolding index_fine
index-fine I n i h = lt-ltb (num I i) n h

-- ---- what is left

-- record and areas after a removal that is not refused
abbrev pub left_state : List ℕ → Run → Holdings → List Node → State
left_state g r h ns = left_behind (took_from g r h) ns

module _ (g : List ℕ) (r : Run) (h : Holdings) (ns : List Node) (a : Accepted g r h ns) where
  abbrev keep : List ℕ
  keep = survivors g r.settings.n

  room : AreasRoom r.settings h
  room = entered-room r h ns a.entered

  climbs : Climbs keep
  climbs = survivors-climb g r.settings.n

  kept : Staying keep r.settings.n
  kept = survivors-kept g r.settings.n

  counters-left : GoodCounters (thinned_run r (length keep))
  unfolding thinned_run thinned
  counters-left =
      let c = a.entered.good.counters in
      record {
        standing-fits = rw a.passed.between at c.standing-fits;
        phase-below = omega (arith, per-some r.settings.method (length keep));
        total = omega arith;
      }

  abbrev after : Holdings
  after = packed_areas r.settings keep h

  areas-left : GoodAreas (thinned r.settings (length keep)) (length after.positions) (length after.increments) (length after.gains) (length after.affinities)
      (length after.indices) (length after.offsets) (length after.forces) (length ns)
  unfolding thinned
  areas-left =
      let z = areas-keep-sizes r.settings keep h room climbs kept in
      let room' = room-left r.settings keep h room climbs kept in
      let p = r.settings.perplexity in
      let fewer : 2 * length keep * neighbours_of p (length keep) ≤ 2 * r.settings.n * k_of r.settings = fewer-links r.settings (length keep) kept.few in
      record {
        positions-long = room'.positions-room;
        increments-long = room'.increments-room;
        gains-long = room'.gains-room;
        forces-long = room'.forces-room;
        tree-long = λ x. (let o = a.entered.good.areas.tree-long x in
            record {
              links-most = omega (arith, z.affinities-size, fewer, o.links-most, length-map bits h.affinities);
              indices-most = omega (arith, z.indices-size, fewer, o.indices-most);
              offsets-most = (room'.lists-room x).offsets-long;
              nodes-some = o.nodes-some;
            });
        exact-long = room'.square-room;
      }

  -- at the front of the offsets stands where each list begins, and no list passes the slots
  last-offset : num (shrunk 0 (r.settings.n + 1) (packed_offsets keep h.indices h.offsets) h.offsets) (length keep)
      ≡ links_left keep h.indices h.offsets
  last-offset =
      let I = h.indices in
      let O = h.offsets in
      let P = packed_offsets keep I O in
      get_or-append P (replicate (r.settings.n + 1 - length P) 0 ++ drop (r.settings.n + 1) O) 0 (length keep) (omega (arith, packed-offsets-size keep I O))
      ∙ packed-offsets-end keep I O

  links-fit : is_tree r.settings.method ≡ true → links_left keep h.indices h.offsets ≤ (sizes_of (thinned r.settings (length keep))).links
  unfolding crowded
  links-fit x = ltb-false (sizes_of (thinned r.settings (length keep))).links (links_left keep h.indices h.offsets) (rw x at a.passed.room)

  contents-left : is_tree r.settings.method ≡ true → GoodContents (length keep) (thinned_run r (length keep)) after.indices after.offsets ns
  unfolding packed_areas indices_after offsets_after thinned_run thinned
  contents-left x =
      let I = h.indices in
      let O = h.offsets in
      let n = r.settings.n in
      let lists = room.lists-room x in
      rw x (record {
        each-offset = offset-fine (packed-listed keep I O lists climbs kept) (omega (arith, last-offset, links-fit x));
        each_index = λ i k. index-fine (shrunk 0 (num O n) (packed_indices keep I O) I) (length keep) i (packed-named keep I O lists climbs kept i k);
        tree = λ p. absurd (p refl);
      })

  good_left : Good (left_state g r h ns)
  unfolding thinned_run thinned
  good_left = record {
    settings = thinned-fine r.settings (length keep) a.entered.good.settings a.passed.enough kept.few a.passed.below;
    counters = counters-left;
    areas = rw (length-map bits after.increments, length-map bits after.gains, length-map bits after.affinities) areas-left;
    contents = contents-left;
  }

  honest-left : Honest (left_state g r h ns)
  unfolding thinned_run
  honest-left = record { good = good_left; grown = λ x p. absurd (p refl) }

-- ---- THEOREM 1: a removal that is not refused leaves an honest state

module _ (g : List ℕ) (r : Run) (h : Holdings) (ns : List Node) (m : ℕ) (left : (take_out g r h ns).answer ≡ Ok m) where
  pub what-is-left-is-honest : Honest (left_behind (take_out g r h ns) ns)
  what-is-left-is-honest = let a = accepted g r h ns m left in subst Honest (ap (λ (o : TookOut). left_behind o ns) (sym a.outcome)) (honest-left g r h ns a)

  -- THEOREM 2, demand 3 from there on: calls one after the other, the last of at least 1, leave everything where one call with the sum leaves it
  pub demand-three-after-taking : (bs : List ℕ) (b : ℕ) → 1 ≤ b → OneCall bs b (left_behind (take_out g r h ns) ns)
  demand-three-after-taking bs b k = demand-three bs b (left_behind (take_out g r h ns) ns) what-is-left-is-honest k

  -- after each call record and memory are those of so many units
  pub after-each-taking : (bs : List ℕ) → SoMany bs (left_behind (take_out g r h ns) ns)
  after-each-taking bs = after-each bs (left_behind (take_out g r h ns) ns)

  -- and the state is honest again
  pub stays-honest-after-taking : (bs : List ℕ) → Honest (works bs (left_behind (take_out g r h ns) ns))
  stays-honest-after-taking bs = stays-honest bs (left_behind (take_out g r h ns) ns) what-is-left-is-honest

  -- one call with all units gives stopped, finished, 14 or 15
  pub ends-in-time-after-taking : (b : ℕ) → whole_units (left_behind (take_out g r h ns) ns) ≤ b → is_last (work b (left_behind (take_out g r h ns) ns)).answer ≡ true
  ends-in-time-after-taking b k = ends-in-time b (left_behind (take_out g r h ns) ns) what-is-left-is-honest k

  -- with room for all splits no call is refused by 14
  pub never-14-after-taking : Roomy (take_out g r h ns).run.settings (length ns)
      → (bs : List ℕ) (b : ℕ) → work_number (work b (works bs (left_behind (take_out g r h ns) ns))).answer ≡ 14 → ⊥
  never-14-after-taking room bs b e = never-14 bs b (left_behind (take_out g r h ns) ns) what-is-left-is-honest room e

  -- a call that is refused leaves the state of the units that it tells
  pub refusal-after-taking : (bs : List ℕ) (b : ℕ) → (work_number (work b (works bs (left_behind (take_out g r h ns) ns))).answer ≡ 0 → ⊥) → Refused b (works bs (left_behind (take_out g r h ns) ns))
  refusal-after-taking bs b n = refusal b (works bs (left_behind (take_out g r h ns) ns)) (stays-honest-after-taking bs).good n

-- ---- THEOREM 3: stretches follow one another

-- a removal leaves an honest state honest, refused or not
pub taking-keeps : (g : List ℕ) (r : Run) (h : Holdings) (ns : List Node) → Honest (state_held r h ns) → Honest (left_behind (take_out g r h ns) ns)
taking-keeps g r h ns k = elim (ℕ_discrete (take_number (take_out g r h ns).answer) 0) [
  | yes z ↦ what-is-left-is-honest g r h ns (length (survivors g r.settings.n)) (no-number-left g r h ns z)
  | no n ↦ subst Honest (sym (refused-state g r h ns n)) k
]

-- so it is after calls and removals in any order
pub reached-honest : {s x : State} → Honest s → Reached s x → Honest x
reached-honest h begun = h
reached-honest h (called {x} bs r) = stays-honest bs x (reached-honest h r)
reached-honest k (thinned_to g r h ns a) = taking-keeps g r h ns (reached-honest k a)

-- and each stretch before, between or after removals is one call: x may be where a stretch begins, or any state within it
pub demand-three-between-removals : {s x : State} → Honest s → Reached s x → (bs : List ℕ) (b : ℕ) → 1 ≤ b → OneCall bs b x
demand-three-between-removals {s} {x} h r bs b k = demand-three bs b x (reached-honest h r) k
