-- A state as preparation and units leave it: in good order, and its tree is the one that the insertions of this iteration built. Definitions only.
use Rattle.std.specs.Prelude.{◌≡◌, List, true, false, ℕ, ◌-◌, ◌<◌, ◌≤◌, min, length}
use Rattle.run_record.specs.declared.Settings.{Settings}
use Rattle.tree_node.specs.declared.Node.{Node}
use Rattle.run_record.specs.declared.Run.{Run}
use Rattle.run_record.specs.Record.{is_tree}
use Rattle.tree.specs.Insert.{tree, insertion, built, enough_nodes}
use Rattle.tree.specs.Box.{boxed}
use Rattle.run_entry.specs.State.{State}
use Rattle.run_entry.specs.Entry.{Good}

-- the points that are in the tree: unit 0 is the box, unit j + 1 the insertion of point j
abbrev pub points_in : Run → ℕ
points_in r = min (r.phase - 1) r.settings.n

-- the arena is what those insertions made of the box, and of what the nodes held before; none was refused
pub record Built (s : State) : Type 0 where
  pub before : List Node
  pub some : 0 < length before
  pub same : insertion false (tree s.run.used s.memory.nodes) ≡ built s.memory.positions s.run.settings.c (points_in s.run)
      (boxed s.memory.positions s.run.settings.n s.run.settings.c before)

pub record Honest (s : State) : Type 0 where
  pub good : Good s
  -- asked between box and finish of a Barnes-Hut run
  pub grown : is_tree s.run.settings.method ≡ true → (s.run.phase ≡ 0 → ⊥) → Built s

-- the arena has nodes for every split that the points of a run can need
abbrev pub Roomy : Settings → ℕ → Type 0
Roomy s nodes = enough_nodes s.c s.n ≤ nodes
