-- The next unit is one of three, by its group; a run that has ended has none. Assumes nothing.
use mathlib.Core.Path.{◌≡◌, sym, ap, subst, ◌∙◌}
use mathlib.Core.List.{List}
use mathlib.Core.Bool.{true, false}
use native.Mathlib.Omega.{arith}
use native.Mathlib.Decide.{ℕ_discrete}
use lib.Ieee.{Float}
use borrow.Author.Tests.{eq-eqb, ne_eqb}
use Rattle.run_record.specs.declared.Run.{Run}
use Rattle.run_record.specs.Record.{is_ended, advanced_of}
use Rattle.tree_node.specs.declared.Node.{Node}
use Rattle.run_entry.specs.State.{State}
use Rattle.std.specs.Prelude.{Err}
use Rattle.run_finish.specs.declared.Halt.TheVariants.{Over}
use Rattle.run_plan.specs.Plan.{group_of}
use Rattle.run_finish.specs.Finish.{Why, FinishTurn, finish_turn, finish_unit}
use Rattle.run_units.specs.Units.{TreeTurn, tree_turn, tree_unit, force_unit, Turned, turned, with_tree, with_forces, with_finish, unit}

module _ (s : State) where
  pub unit-over : is_ended s.run.standing ≡ true → turned s (Err Over) ≡ unit s
  unfolding unit
  unit-over e = rw e

  module _ (live : is_ended s.run.standing ≡ false) where
    pub unit-tree : group_of s.run ≡ 0 → unit s ≡ with_tree s.memory (tree_unit s.run s.memory.positions s.memory.nodes)
    unfolding unit
    unit-tree e = rw (live, eq-eqb (group_of s.run) 0 e)

    pub unit-force : group_of s.run ≡ 1 → unit s ≡ with_forces s.memory (advanced_of s.run s.run.used)
        (force_unit s.run s.memory.positions s.memory.affinities s.memory.indices s.memory.offsets s.memory.nodes s.memory.forces)
    unfolding unit
    unit-force e = rw (live, ne_eqb (group_of s.run) 0 (λ q. omega arith), eq-eqb (group_of s.run) 1 e)

    pub unit-finish : (group_of s.run ≡ 0 → ⊥) → (group_of s.run ≡ 1 → ⊥) →
        unit s ≡ with_finish s.memory (finish_unit s.run s.memory.positions s.memory.increments s.memory.gains s.memory.forces)
    unfolding unit
    unit-finish a b = rw (live, ne_eqb (group_of s.run) 0 a, ne_eqb (group_of s.run) 1 b)

    -- what holds of each of the three holds of the unit
    pub by-unit : (P : Turned → Type 0)
        → (group_of s.run ≡ 0 → P (with_tree s.memory (tree_unit s.run s.memory.positions s.memory.nodes)))
        → (group_of s.run ≡ 1 → P (with_forces s.memory (advanced_of s.run s.run.used)
        (force_unit s.run s.memory.positions s.memory.affinities s.memory.indices s.memory.offsets s.memory.nodes
        s.memory.forces)))
        → ((group_of s.run ≡ 0 → ⊥) → (group_of s.run ≡ 1 → ⊥) →
        P (with_finish s.memory (finish_unit s.run s.memory.positions s.memory.increments s.memory.gains s.memory.forces)))
        → P (unit s)
    by-unit P t f e =
        elim (ℕ_discrete (group_of s.run) 0) [
          | yes a ↦ subst P (sym (unit-tree a)) (t a)
          | no a ↦ elim (ℕ_discrete (group_of s.run) 1) [
            | yes b ↦ subst P (sym (unit-force b)) (f b)
            | no b ↦ subst P (sym (unit-finish a b)) (e a b)
          ]
        ]

    -- ---- what the functions leave is the unit

    pub tree_is : (r' : Run) (ns' : List Node) (w : Why) → group_of s.run ≡ 0 → tree_turn r' ns' w ≡ tree_unit s.run s.memory.positions s.memory.nodes
        → turned (record {
          run = r';
          memory = record {
            positions = s.memory.positions;
            increments = s.memory.increments;
            gains = s.memory.gains;
            affinities = s.memory.affinities;
            indices = s.memory.indices;
            offsets = s.memory.offsets;
            forces = s.memory.forces;
            nodes = ns';
          };
        }) w ≡
        unit s
    tree_is r' ns' w z e = ap (λ (t : TreeTurn). with_tree s.memory t) e ∙ sym (unit-tree z)

    pub force-is : (r' : Run) (F : List Float) → group_of s.run ≡ 1 → (r' ≡ advanced_of s.run s.run.used) ×
        (F ≡ force_unit s.run s.memory.positions s.memory.affinities s.memory.indices s.memory.offsets s.memory.nodes s.memory.forces)
        → with_forces s.memory r' F ≡ unit s
    force-is r' F z e = rw (e.0, e.1) (sym (unit-force z))

    pub finish-is : (r' : Run) (y v g : List Float) (w : Why) → (group_of s.run ≡ 0 → ⊥) → (group_of s.run ≡ 1 → ⊥) →
        finish_turn r' y v g w ≡ finish_unit s.run s.memory.positions s.memory.increments s.memory.gains s.memory.forces
        → with_finish s.memory (finish_turn r' y v g w) ≡ unit s
    finish-is r' y v g w a b e = ap (λ (t : FinishTurn). with_finish s.memory t) e ∙ sym (unit-finish a b)
