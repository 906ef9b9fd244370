-- Two exact runs from the same settings, table and areas, the start of the second with components turned: each later state shows the other's. Assumes nothing.
use mathlib.Core.Path.{◌≡◌, ap}
use mathlib.Core.List.{List}
use mathlib.Core.Bool.{Bool, false}
use Prim.Native.Nat.{ℕ, ◌*◌, ◌%◌}
use lib.ListN.{length}
use lib.Ieee.{Float}
use borrow.Author.Tests.{eq-eqb, ne_eqb}
use Rattle.laws.specs.Area.{at}
use Rattle.tree_node.specs.declared.Cell.{Cell}
use Rattle.run_record.specs.declared.Settings.{Settings}
use Rattle.run_record.specs.declared.Run.{Run}
use Rattle.run_record.specs.Record.{is_tree}
use Rattle.run_entry.specs.State.{State}
use Rattle.descent.specs.Descent.{work, work_number, units_of, works}
use Rattle.std.specs.Prelude.{Ok}
use Rattle.prepare.specs.Prepare.{Lent, prepared}
use Rattle.mirror_values.specs.Shown.{just_one, ShowsAll}
use Rattle.mirror.specs.Mirror.{ShowsState, ShowsCalls, TurnedIn, TurnedState, TurnedCalls}
use Rattle.mirror.proofs.Calls.{works-mirrored}
use Rattle.mirror.proofs.Theorems.{run_begun, mirror_begun, preparation-mirrored}

-- ---- any set of components

module _ (turns : ℕ → Bool) (s : Settings) (table start : List Float) (cs : List Cell) (l : Lent) (exact : is_tree s.method ≡ false) (run : Run)
    (ready : (prepared s table start (length cs) l).answer ≡ Ok run) where
  -- THEOREM: any set of components. After any calls with the same budgets records, answers and unit counts agree;
  -- positions, increments and gradients have those components turned, all else is equal to the bit
  pub mirrored-runs : (bs : List ℕ) → ShowsCalls turns bs (run_begun turns s table start cs l exact run ready) (mirror_begun turns s table start cs l exact run ready)
  mirrored-runs bs =
      works-mirrored turns bs (run_begun turns s table start cs l exact run ready) (mirror_begun turns s table start cs l exact run ready)
      (preparation-mirrored turns s table start cs l exact run ready)

  -- THEOREM: so 15 is met by both or by neither, at the same unit
  pub numbers-agree : (bs : List ℕ) (b : ℕ) →
      (work_number (work b (works bs (run_begun turns s table start cs l exact run ready))).answer
      ≡ work_number (work b (works bs (mirror_begun turns s table start cs l exact run ready))).answer) ×
      (units_of (work b (works bs (run_begun turns s table start cs l exact run ready))).answer
      ≡ units_of (work b (works bs (mirror_begun turns s table start cs l exact run ready))).answer)
  numbers-agree bs b = let e = (mirrored-runs bs).answer b in (ap work_number e, ap units_of e)

-- ---- one component

one-turned : (d c m : ℕ) (xs ys : List Float) → ShowsAll (just_one d) c m xs ys → TurnedIn d c m xs ys
one-turned d c m xs ys r = record {
  long = r.long;
  here = λ i h e. (r.shown i h).turned (eq-eqb (i % c) d e);
  elsewhere = λ i h e. (r.shown i h).straight (ne_eqb (i % c) d e);
  past = r.past;
}

one-mirrored : (d : ℕ) (s t : State) → ShowsState (just_one d) s t → TurnedState d s t
one-mirrored d s t w =
    let c = s.run.settings.c in
    let m = s.run.settings.n * c in
    record {
      same-record = w.same-record;
      positions = one-turned d c m s.memory.positions t.memory.positions w.areas.positions;
      increments = one-turned d c m s.memory.increments t.memory.increments w.areas.increments;
      gradients = one-turned d c m s.memory.forces t.memory.forces w.areas.forces;
      total = w.areas.total;
      gains = w.areas.gains;
      affinities = w.areas.affinities;
    }

-- THEOREM: one component. With its sign turned in every starting position, records, answers and unit counts agree after any calls with the same budgets;
-- every later position, increment and gradient has it turned, and all else is equal
module _ (d : ℕ) (s : Settings) (table start : List Float) (cs : List Cell) (l : Lent) (exact : is_tree s.method ≡ false) (run : Run)
    (ready : (prepared s table start (length cs) l).answer ≡ Ok run) where
  pub mirrored-in-one : (bs : List ℕ) → TurnedCalls d bs (run_begun (just_one d) s table start cs l exact run ready) (mirror_begun (just_one d) s table start cs l exact run ready)
  mirrored-in-one bs =
      let x = run_begun (just_one d) s table start cs l exact run ready in
      let y = mirror_begun (just_one d) s table start cs l exact run ready in
      let w = mirrored-runs (just_one d) s table start cs l exact run ready bs in
      record { left = one-mirrored d (works bs x) (works bs y) w.left; units = w.units; answer = w.answer }
