-- What the units' answers cite: what a state in order gives each callee, and that what the callees leave is the unit. Assumes nothing.
use mathlib.Core.Path.{◌≡◌, refl, sym, ap, subst, ◌∙◌}
use mathlib.Core.List.{List}
use mathlib.Core.Bool.{Bool, true, false}
use Prim.Native.Nat.{ℕ, ◌+◌, ◌-◌, ◌*◌, ◌<◌, ◌≤◌}
use native.Mathlib.Omega.{arith}
use lib.Dec.{eqb}
use lib.ListN.{length, set}
use lib.Ieee.{Float}
use borrow.Author.Tests.{eqb-true, eqb-false}
use Rattle.laws.specs.Domain.{most_frames, most_word}
use Rattle.laws.proofs.Bools.{by_bool}
use Rattle.run_record.specs.declared.Run.{Run}
use Rattle.run_record.specs.Record.{is_tree, is_ended, advanced_of}
use Rattle.run_plan.specs.Plan.{exaggeration_of, group_of}
use Rattle.tree_node.specs.declared.Cell.{Cell}
use Rattle.tree_node.specs.Node.{Axes}
use Rattle.tree_node.specs.Arena.{nodes_of}
use Rattle.tree_node.proofs.Told.{nodes-length, nameable-most, nameable-word}
use Rattle.tree_bounds.specs.Bounds.{box_of}
use Rattle.tree.specs.declared.Inserted.{Inserted}
use Rattle.tree.specs.Insert.{tree, insertion, insert_of, growable, shaped}
use Rattle.gradient.specs.Forces.{Linked, forces_of}
use Rattle.run_entry.specs.State.{memory, state}
use Rattle.run_entry.specs.Entry.{Workable}
use Rattle.std.specs.Prelude.{Result, Ok, Err}
use Rattle.run_finish.specs.declared.Halt.{Halt}
use Rattle.run_finish.specs.declared.Halt.TheVariants.{Over}
use Rattle.run_finish.specs.Finish.{run_left, why_of, finish_turn, finish_unit}
use Rattle.run_units.specs.Units.{inserted_of, tree_turn, tree_unit, force_unit, row_unit, turned, unit}
use Rattle.run_finish.specs.FinishRoom.{Small, FinishRoom}
use Rattle.run_units.specs.Room.{TreeRoom, ForceRoom, RowRoom}
use Rattle.run_units.proofs.Rooms.{tree-room, force-room, finish-room}
use Rattle.run_units.proofs.Turned.{box-is, insert-full, insert-done}
use Rattle.run_units.proofs.One.{unit-over, tree_is, force-is, finish-is}

-- ---- the units of the tree

module _ (r : Run) (y : List Float) (cs : List Cell) (k : TreeRoom r (length y) (nodes_of cs)) (b : Bool) (eb : b ≡ eqb r.phase 0) where
  pub box-asks : (Axes r.settings.c) × (r.settings.n * r.settings.c ≤ length y) × (0 < length cs)
  box-asks = (k.axes, k.positions-in, omega (arith, k.nodes-some, nodes-length cs))

  pub box-told : b ≡ true → (ds : List Cell) → nodes_of ds ≡ set (nodes_of cs) 0 (box_of y r.settings.n r.settings.c) → (t : Result Run Halt) →
      t ≡ Ok (advanced_of r 1) → tree_turn (run_left r t) (nodes_of ds) (why_of t) ≡ tree_unit r y (nodes_of cs)
  box-told yes-b ds ed t et =
      ap (λ (x : Result Run Halt). tree_turn (run_left r x) (nodes_of ds) (why_of x)) et ∙ box-is r y (nodes_of cs) (nodes_of ds) (eqb-true r.phase 0 (sym eb ∙ yes-b)) refl ed

  module _ (no-b : b ≡ false) where
    later : r.phase ≡ 0 → ⊥
    later = eqb-false r.phase 0 (sym eb ∙ no-b)

    pub next-asks : Small r × (0 < r.phase)
    next-asks = (k.numbers, omega (arith, later))

    module _ (j : ℕ) (ej : j ≡ r.phase - 1) where
      pub insert-asks : (Axes r.settings.c) × (0 < r.used) × (r.used ≤ length cs) × (r.settings.n * r.settings.c ≤ length y) × (j < r.settings.n) ×
          (r.settings.n ≤ most_word) × (growable r.settings.n r.settings.c (tree r.used (nodes_of cs)) ≡ true)
      insert-asks = (
        k.axes,
        k.used-some later,
        omega (arith, k.used-in later, nameable-most (length (nodes_of cs)), nodes-length cs),
        k.positions-in,
        omega (arith, ej, later, k.phase-in),
        omega (arith, k.numbers.n-most),
        k.sound later,
      )

      pub insert-told : (a : Inserted) (ds : List Cell) → insertion a.full (tree a.used (nodes_of ds)) ≡ insert_of y r.settings.c j (tree r.used (nodes_of cs))
          → (t : Result Run Halt) → t ≡ inserted_of r a.full a.used → tree_turn (run_left r t) (nodes_of ds) (why_of t) ≡ tree_unit r y (nodes_of cs)
      unfolding inserted_of
      insert-told a ds ed t et =
          let q : insertion a.full (tree a.used (nodes_of ds)) ≡ insert_of y r.settings.c (r.phase - 1) (tree r.used (nodes_of cs)) = subst
          (λ (x : ℕ). insertion a.full (tree a.used (nodes_of ds)) ≡ insert_of y r.settings.c x (tree r.used (nodes_of cs))) ej ed in
          ap (λ (x : Result Run Halt). tree_turn (run_left r x) (nodes_of ds) (why_of x)) et
          ∙ by_bool (tree_turn (run_left r (inserted_of r a.full a.used)) (nodes_of ds) (why_of (inserted_of r a.full a.used)) ≡ tree_unit r y (nodes_of cs)) a.full
          (λ f. rw f (insert-full r y (nodes_of cs) (nodes_of ds) a.full a.used later q f))
          (λ f. rw f (insert-done r y (nodes_of cs) (nodes_of ds) a.full a.used later q f refl))

-- ---- the units of the forces

module _ (r : Run) (y P : List Float) (xs off : List ℕ) (cs : List Cell) (F : List Float)
    (k : ForceRoom r (length y) (length P) (length F) P xs off (nodes_of cs)) (b : Bool) (eb : b ≡ is_tree r.settings.method) where
  pub run_small : (r.phase < 10000) × (r.units < 1000000000)
  run_small = (k.numbers.phase-small, k.numbers.units_small)

  module _ (yes-b : b ≡ true) where
    abbrev tree-run : is_tree r.settings.method ≡ true
    tree-run = sym eb ∙ yes-b

    pub seen-asks : r.settings.n < r.phase
    seen-asks = k.phase-tree tree-run

    module _ (i : ℕ) (ei : i ≡ r.phase - r.settings.n - 1) where
      pub point-asks : (Axes r.settings.c) × (i < r.settings.n) × (r.settings.n ≤ most_frames) × (r.settings.n * r.settings.c ≤ length y) ×
          (r.settings.n * (2 * r.settings.c + 1) ≤ length F) × (0 < r.used)
          × (r.used ≤ length (nodes_of cs)) × (r.used ≤ most_word) × (shaped r.settings.c (tree r.used (nodes_of cs)) ≡ true) × Linked r.settings.n P xs off i
      point-asks =
          let u = k.used-in tree-run in (
            k.axes tree-run,
            omega (arith, ei, seen-asks, k.phase-most),
            k.numbers.n-most,
            k.positions-in,
            k.forces-in,
            k.used-some tree-run,
            omega (arith, u, nameable-most (length (nodes_of cs))),
            omega (arith, u, nameable-word (length (nodes_of cs))),
            k.sound tree-run,
            subst (Linked r.settings.n P xs off) (sym ei) (k.linked tree-run),
          )

      pub point-told : (x : Float) → x ≡ exaggeration_of r → (F' : List Float) → F' ≡ forces_of x r.settings.angle r.settings.c y P xs off r.used (nodes_of cs) i F
          → (t : Run) → t ≡ advanced_of r r.used → (t ≡ advanced_of r r.used) × (F' ≡ force_unit r y P xs off (nodes_of cs) F)
      unfolding force_unit
      point-told x ex F' e_f t et = (et, e_f ∙ rw (tree-run, ex, ei))

  module _ (no-b : b ≡ false) where
    abbrev exact-run : is_tree r.settings.method ≡ false
    exact-run = sym eb ∙ no-b

    pub row-asks : RowRoom r (length y) (length P) (length F)
    row-asks = record { c-most = k.c-most; phase-in = k.phase-exact exact-run; positions-in = k.positions-in; square-in = k.square-in exact-run; total-in = k.total-in }

    pub row_told : (F' : List Float) → F' ≡ row_unit r y P F → (t : Run) → t ≡ advanced_of r r.used → (t ≡ advanced_of r r.used) × (F' ≡ force_unit r y P xs off (nodes_of cs) F)
    unfolding force_unit row_unit
    row_told F' e_f t et = (et, e_f ∙ rw exact-run)

-- ---- the next unit

module _ (r : Run) (y v g P : List Float) (xs off : List ℕ) (F : List Float) (cs : List Cell) (k : Workable (state r (memory y v g P xs off F cs))) where
  pub few-frames : r.settings.n ≤ most_frames
  few-frames = k.settings.n-most

  module _ (b₁ : Bool) (e₁ : b₁ ≡ is_ended r.standing) where
    pub over-told : b₁ ≡ true → (t : Result Run Halt) → t ≡ Err Over → turned (state (run_left r t) (memory y v g P xs off F cs)) (why_of t) ≡ unit (state r (memory y v g P xs off F cs))
    over-told yes₁ t et = ap (λ (x : Result Run Halt). turned (state (run_left r x) (memory y v g P xs off F cs)) (why_of x)) et ∙
        unit-over (state r (memory y v g P xs off F cs)) (sym e₁ ∙ yes₁)

    module _ (no₁ : b₁ ≡ false) (b₂ : Bool) (e₂ : b₂ ≡ eqb (group_of r) 0) where
      live : is_ended r.standing ≡ false
      live = sym e₁ ∙ no₁

      module _ (yes₂ : b₂ ≡ true) where
        group-0 : group_of r ≡ 0
        group-0 = eqb-true (group_of r) 0 (sym e₂ ∙ yes₂)

        pub tree-asks : TreeRoom r (length y) (nodes_of cs)
        tree-asks = tree-room (state r (memory y v g P xs off F cs)) k group-0

        pub tree-told : (t : Result Run Halt) (ds : List Cell) → tree_turn (run_left r t) (nodes_of ds) (why_of t) ≡ tree_unit r y (nodes_of cs) →
            turned (state (run_left r t) (memory y v g P xs off F ds)) (why_of t) ≡ unit (state r (memory y v g P xs off F cs))
        tree-told t ds e = tree_is (state r (memory y v g P xs off F cs)) live (run_left r t) (nodes_of ds) (why_of t) group-0 e

      module _ (no₂ : b₂ ≡ false) (b₃ : Bool) (e₃ : b₃ ≡ eqb (group_of r) 1) where
        module _ (yes₃ : b₃ ≡ true) where
          group-1 : group_of r ≡ 1
          group-1 = eqb-true (group_of r) 1 (sym e₃ ∙ yes₃)

          pub force-asks : ForceRoom r (length y) (length P) (length F) P xs off (nodes_of cs)
          force-asks = force-room (state r (memory y v g P xs off F cs)) k group-1

          pub force-told : (u : Run) (F' : List Float) → (u ≡ advanced_of r r.used) × (F' ≡ force_unit r y P xs off (nodes_of cs) F) → (t : Result Run Halt) → t ≡ Ok u
              → turned (state (run_left r t) (memory y v g P xs off F' cs)) (why_of t) ≡ unit (state r (memory y v g P xs off F cs))
          force-told u F' e t et = ap (λ (x : Result Run Halt). turned (state (run_left r x) (memory y v g P xs off F' cs)) (why_of x)) et ∙
              force-is (state r (memory y v g P xs off F cs)) live u F' group-1 e

        module _ (no₃ : b₃ ≡ false) where
          pub finish-asks : FinishRoom r (length y) (length v) (length g) (length F)
          finish-asks = finish-room (state r (memory y v g P xs off F cs)) k

          pub finish-told : (t : Result Run Halt) (y' v' g' : List Float) → finish_turn (run_left r t) y' v' g' (why_of t) ≡ finish_unit r y v g F →
              turned (state (run_left r t) (memory y' v' g' P xs off F cs)) (why_of t) ≡ unit (state r (memory y v g P xs off F cs))
          finish-told t y' v' g' e =
              finish-is (state r (memory y v g P xs off F cs)) live (run_left r t) y' v' g' (why_of t)
              (eqb-false (group_of r) 0 (sym e₂ ∙ no₂)) (eqb-false (group_of r) 1 (sym e₃ ∙ no₃)) e
