-- A unit of an exact run does to what the mirror shows what it does to the run: the same record and refusal, and areas that show each other again. Assumes nothing.
use mathlib.Core.Path.{◌≡◌, refl, sym, ap, subst, ◌∙◌}
use mathlib.Core.List.{List}
use mathlib.Core.Bool.{Bool, false, cond, true≢false}
use Prim.Native.Nat.{ℕ, ◌-◌, ◌*◌, ◌%◌, ◌<◌, ◌≤◌}
use native.Mathlib.Omega.{arith}
use native.Mathlib.Nat.{le_refl}
use native.Mathlib.Decide.{ℕ_discrete}
use lib.Dec.{ltb}
use lib.Ieee.{Float}
use borrow.Author.Tests.{ltb-true, ltb-false}
use Rattle.laws.specs.Area.{at}
use Rattle.laws.proofs.Bools.{by_bool}
use Rattle.run_record.specs.declared.Run.{Run}
use Rattle.run_record.specs.Record.{is_tree, is_ended, advanced_of, closed_of}
use Rattle.run_plan.specs.Plan.{exaggeration_of, group_of}
use Rattle.gradient.specs.Exact.{total_row, gradient_row}
use Rattle.gradient.specs.Element.{gradient_of, gradients_of, norm_of}
use Rattle.std.specs.Prelude.{Result, Ok, Err}
use Rattle.step.specs.Step.{StepOutcome, finish_of}
use Rattle.tree_node.specs.declared.Node.{Node}
use Rattle.run_entry.specs.State.{Memory, State, state}
use Rattle.run_finish.specs.Finish.{is_exact, before_of, FinishTurn, finish_as, finish_unit}
use Rattle.run_units.specs.Units.{unit, force_unit, with_forces, with_finish}
use Rattle.run_units.proofs.Rooms.{group-zero, group-one}
use Rattle.run_units.proofs.One.{unit-over, unit-force, unit-finish}
use Rattle.mirror_values.specs.Values.{Shows}
use Rattle.mirror_values.specs.Shown.{ShowsAll}
use Rattle.mirror_rules.specs.Sides.{ShowsBefore, ShowsOutcome}
use Rattle.mirror_rules.proofs.Gradients.{total-shown, row-shown}
use Rattle.mirror_rules.proofs.Finish.{step-shown, norm-same}
use Rattle.mirror.specs.Mirror.{ShowsMemory, ShowsState, ShowsUnit}

-- ---- which unit is next

-- none of them is one of the tree
no-tree : (r : Run) → is_tree r.settings.method ≡ false → group_of r ≡ 0 → ⊥
no-tree r x e = true≢false (sym (group-zero r e).0 ∙ x)

-- ---- a row of the total or of the gradient

force-shape : (r : Run) (y P : List Float) (xs off : List ℕ) (ns : List Node) (F : List Float) → is_tree r.settings.method ≡ false
    → force_unit r y P xs off ns F ≡ cond (ltb r.phase r.settings.n) (total_row y r.settings.n r.settings.c r.phase F)
    (gradient_row y P (exaggeration_of r) r.settings.n r.settings.c (r.phase - r.settings.n) F)
unfolding force_unit
force-shape r y P xs off ns F x = rw x

module _ (turns : ℕ → Bool) (r : Run) (x : is_tree r.settings.method ≡ false) where
  abbrev n : ℕ
  n = r.settings.n

  abbrev c : ℕ
  c = r.settings.c

  -- areas that show each other, those of the links and the arena being equal
  forces-shown : (y y' P F F' : List Float) (xs off : List ℕ) (ns : List Node) → group_of r ≡ 1 → ShowsAll turns c (n * c) y y' → ShowsAll turns c (n * c) F F' →
      ShowsAll turns c (n * c) (force_unit r y P xs off ns F) (force_unit r y' P xs off ns F')
  forces-shown y y' P F F' xs off ns g p q =
      let m = (group-one r g).exact x in
      rw (force-shape r y P xs off ns F x, force-shape r y' P xs off ns F' x) (by_bool
      (ShowsAll turns c (n * c)
      (cond (ltb r.phase n) (total_row y n c r.phase F) (gradient_row y P (exaggeration_of r) n c (r.phase - n) F))
      (cond (ltb r.phase n) (total_row y' n c r.phase F') (gradient_row y' P (exaggeration_of r) n c (r.phase - n) F')))
      (ltb r.phase n)
      (λ t. rw t (total-shown turns n c y y' p F F' q r.phase (ltb-true r.phase n t)))
      (λ t. let l : n ≤ r.phase = ltb-false r.phase n t in rw t (row-shown turns n c y y' p F F' q P (exaggeration_of r) (r.phase - n) (omega arith))))

  -- ---- the finish

  gradient-is : (F : List Float) (e : ℕ) → gradients_of (is_exact r) F n c e ≡ at F e
  unfolding gradient_of
  gradient-is F e = rw x

  gradients-shown : (F F' : List Float) → ShowsAll turns c (n * c) F F' → (e : ℕ) → e < n * c → Shows (turns (e % c)) (gradients_of (is_exact r) F n c e) (gradients_of (is_exact r) F' n c e)
  gradients-shown F F' q e h = rw (gradient-is F e, gradient-is F' e) (q.shown e h)

  -- what a finish leaves
  record ShowsTurn (a b : FinishTurn) : Type 0 where
    run : a.run ≡ b.run
    settings : a.run.settings ≡ r.settings
    why : a.why ≡ b.why
    positions : ShowsAll turns c (n * c) a.positions b.positions
    increments : ShowsAll turns c (n * c) a.increments b.increments
    gains : a.gains ≡ b.gains

  finish-as : (m m' : Float) (o o' : StepOutcome) (a : Result (Unit {0}) ℕ) → m ≡ m' → ShowsOutcome turns n c o o' → ShowsTurn (finish_as r m o a) (finish_as r m' o' a)
  unfolding closed_of
  finish-as m m' o o' (Ok tt) e q = record { run = ap (closed_of r) e; settings = refl; why = refl; positions = q.positions; increments = q.increments; gains = q.gains }
  finish-as m m' o o' (Err k) e q = record { run = refl; settings = refl; why = refl; positions = q.positions; increments = q.increments; gains = q.gains }

  finish-told : (m m' : Float) (o o' : StepOutcome) → m ≡ m' → ShowsOutcome turns n c o o' → ShowsTurn (finish_as r m o o.answer) (finish_as r m' o' o'.answer)
  finish-told m m' o o' e q = subst (λ (a : Result (Unit {0}) ℕ). ShowsTurn (finish_as r m o o.answer) (finish_as r m' o' a)) q.answer (finish-as m m' o o' o.answer e q)

  finish-shape : (y v g F : List Float) → finish_unit r y v g F ≡ finish_as r (norm_of (gradients_of (is_exact r) F n c) (n * c)) (finish_of (before_of r y v g F) n c)
      (finish_of (before_of r y v g F) n c).answer
  unfolding finish_unit
  finish-shape y v g F = refl

  finish-shown : (y y' v v' g F F' : List Float) → ShowsAll turns c (n * c) y y' → ShowsAll turns c (n * c) v v' → ShowsAll turns c (n * c) F F' →
      ShowsTurn (finish_unit r y v g F) (finish_unit r y' v' g F')
  finish-shown y y' v v' g F F' p q f =
      let d = gradients-shown F F' f in
      let b : ShowsBefore turns n c (before_of r y v g F) (before_of r y' v' g F') = record { momentum = refl; rate = refl; gradients = d; positions = p; increments = q; gains = refl } in
      let o = step-shown turns n c (before_of r y v g F) (before_of r y' v' g F') b in
      let m = norm-same turns c (n * c) (gradients_of (is_exact r) F n c) (gradients_of (is_exact r) F' n c) d in
      rw (finish-shape y v g F, finish-shape y' v' g F')
      (finish-told (norm_of (gradients_of (is_exact r) F n c) (n * c)) (norm_of (gradients_of (is_exact r) F' n c) (n * c)) (finish_of (before_of r y v g F) n c)
      (finish_of (before_of r y' v' g F') n c) m o)

  -- ---- a unit

  -- the forces and the finish of the next unit, from the areas
  abbrev forced : Memory → List Float
  forced m = force_unit r m.positions m.affinities m.indices m.offsets m.nodes m.forces

  abbrev finished : Memory → FinishTurn
  finished m = finish_unit r m.positions m.increments m.gains m.forces

  module _ (m m' : Memory) (w : ShowsMemory turns n c m m') where
    forced-shown : group_of r ≡ 1 → ShowsAll turns c (n * c) (forced m) (forced m')
    forced-shown g =
        rw (w.affinities, w.indices, w.offsets, w.nodes)
        (forces-shown m.positions m'.positions m'.affinities m.forces m'.forces m'.indices m'.offsets m'.nodes g w.positions w.forces)

    finished-shown : ShowsTurn (finished m) (finished m')
    finished-shown = rw w.gains (finish-shown m.positions m'.positions m.increments m'.increments m'.gains m.forces m'.forces w.positions w.increments w.forces)

    -- the areas with other forces, or after a finish
    forces-put : (F F' : List Float) → ShowsAll turns c (n * c) F F' → ShowsMemory turns n c (with_forces m r F).now.memory (with_forces m' r F').now.memory
    forces-put F F' f = record {
      positions = w.positions;
      increments = w.increments;
      forces = f;
      total = f.past (n * c) (le_refl (n * c));
      gains = w.gains;
      affinities = w.affinities;
      indices = w.indices;
      offsets = w.offsets;
      nodes = w.nodes;
    }

    finish-put : (a b : FinishTurn) → ShowsTurn a b → ShowsMemory turns n c (with_finish m a).now.memory (with_finish m' b).now.memory
    finish-put a b f = record {
      positions = f.positions;
      increments = f.increments;
      forces = w.forces;
      total = w.total;
      gains = f.gains;
      affinities = w.affinities;
      indices = w.indices;
      offsets = w.offsets;
      nodes = w.nodes;
    }

    unit_runs : is_ended r.standing ≡ false → ShowsUnit turns (unit (state r m)) (unit (state r m'))
    unfolding advanced_of
    unit_runs live = elim (ℕ_discrete (group_of r) 1) [
      | yes g ↦ rw (unit-force (state r m) live g, unit-force (state r m') live g) (record {
        why = refl;
        now = record { same-record = refl; exact = x; areas = forces-put (forced m) (forced m') (forced-shown g) };
      })
      | no g ↦ (let f = finished-shown in
          rw (unit-finish (state r m) live (no-tree r x) g, unit-finish (state r m') live (no-tree r x) g) (record {
            why = f.why;
            now = record { same-record = f.run; exact = rw f.settings x; areas = rw f.settings (finish-put (finished m) (finished m') f) };
          }))
    ]

    unit-same : ShowsUnit turns (unit (state r m)) (unit (state r m'))
    unit-same = by_bool (ShowsUnit turns (unit (state r m)) (unit (state r m'))) (is_ended r.standing)
        (λ e. rw (sym (unit-over (state r m) e), sym (unit-over (state r m') e)) (record { why = refl; now = record { same-record = refl; exact = x; areas = w } }))
        unit_runs

-- a unit of two such states
pub unit-mirrored : (turns : ℕ → Bool) (s t : State) → ShowsState turns s t → ShowsUnit turns (unit s) (unit t)
unit-mirrored turns s t w = subst (λ (u : Run). ShowsUnit turns (unit s) (unit (state u t.memory))) w.same-record (unit-same turns s.run w.exact s.memory t.memory w.areas)
