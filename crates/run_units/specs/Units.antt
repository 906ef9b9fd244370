-- One unit of either method: box, insertions, forces or rows, finish. Definitions only.
use Rattle.std.specs.Prelude.{List, Bool, cond, ℕ, ◌-◌, eqb, ltb, Float, Result, Ok, Err}
use Rattle.std.specs.Result.{is_ok}
use Rattle.run_record.specs.declared.Run.{Run}
use Rattle.run_record.specs.Record.{is_tree, is_ended, advanced_of}
use Rattle.run_plan.specs.Plan.{exaggeration_of, group_of}
use Rattle.tree_node.specs.declared.Node.{Node}
use Rattle.tree.specs.Insert.{tree, Insertion, insert_of}
use Rattle.tree.specs.Box.{boxed}
use Rattle.gradient.specs.Forces.{forces_of}
use Rattle.gradient.specs.Exact.{total_row, gradient_row}
use Rattle.run_entry.specs.State.{Memory, State}
use Rattle.run_finish.specs.Finish.{Why, FinishTurn, finish_unit}
use Rattle.run_finish.specs.declared.Halt.{Halt}
use Rattle.run_finish.specs.declared.Halt.TheVariants.{Full, Over}

abbrev pub is_done : Why → Bool
is_done w = is_ok w

-- an insertion that is refused, or leaves so many nodes in use
unfoldable pub inserted_of : Run → Bool → ℕ → Result Run Halt
inserted_of r full used = cond full (Err Full) (Ok (advanced_of r used))

-- ---- box and insertion

pub record TreeTurn : Type 0 where
  pub run : Run
  pub nodes : List Node
  pub why : Why

abbrev pub tree_turn : Run → List Node → Why → TreeTurn
tree_turn r ns y = record { run = r; nodes = ns; why = y }

-- the box: node 0 is the root, and the only node in use
abbrev pub box_turn : Run → List Float → List Node → TreeTurn
box_turn r y ns = tree_turn (advanced_of r 1) (boxed y r.settings.n r.settings.c ns).nodes (Ok tt)

-- an insertion with its refusal, which leaves the tree as it was
unfoldable pub insert_turn : Run → Insertion → TreeTurn
insert_turn r t = cond t.full (tree_turn r t.tree.nodes (Err Full)) (tree_turn (advanced_of r t.tree.used) t.tree.nodes (Ok tt))

-- unit 0 is the box, unit j + 1 the insertion of point j
unfoldable pub tree_unit : Run → List Float → List Node → TreeTurn
tree_unit r y ns = cond (eqb r.phase 0) (box_turn r y ns) (insert_turn r (insert_of y r.settings.c (r.phase - 1) (tree r.used ns)))

-- ---- forces of a point; rows of the total, then of the gradient

unfoldable pub force_unit : Run → List Float → List Float → List ℕ → List ℕ → List Node → List Float → List Float
force_unit r y P xs off ns F =
    let s = r.settings in
    cond (is_tree s.method) (forces_of (exaggeration_of r) s.angle s.c y P xs off r.used ns (r.phase - s.n - 1) F)
    (cond (ltb r.phase s.n) (total_row y s.n s.c r.phase F) (gradient_row y P (exaggeration_of r) s.n s.c (r.phase - s.n) F))

-- of an exact run
unfoldable pub row_unit : Run → List Float → List Float → List Float → List Float
row_unit r y P F =
    let s = r.settings in
    cond (ltb r.phase s.n) (total_row y s.n s.c r.phase F) (gradient_row y P (exaggeration_of r) s.n s.c (r.phase - s.n) F)

-- ---- a unit

pub record Turned : Type 0 where
  pub now : State
  pub why : Why

abbrev pub turned : State → Why → Turned
turned s y = record { now = s; why = y }

abbrev pub with_tree : Memory → TreeTurn → Turned
with_tree m t = turned (record {
  run = t.run;
  memory = record {
    positions = m.positions;
    increments = m.increments;
    gains = m.gains;
    affinities = m.affinities;
    indices = m.indices;
    offsets = m.offsets;
    forces = m.forces;
    nodes = t.nodes;
  };
}) t.why

abbrev pub with_forces : Memory → Run → List Float → Turned
with_forces m r F = turned (record {
  run = r;
  memory = record {
    positions = m.positions;
    increments = m.increments;
    gains = m.gains;
    affinities = m.affinities;
    indices = m.indices;
    offsets = m.offsets;
    forces = F;
    nodes = m.nodes;
  };
}) (Ok tt)

abbrev pub with_finish : Memory → FinishTurn → Turned
with_finish m t = turned (record {
  run = t.run;
  memory = record {
    positions = t.positions;
    increments = t.increments;
    gains = t.gains;
    affinities = m.affinities;
    indices = m.indices;
    offsets = m.offsets;
    forces = m.forces;
    nodes = m.nodes;
  };
}) t.why

unfoldable pub unit : State → Turned
unit s =
    let r = s.run in
    let m = s.memory in
    cond (is_ended r.standing) (turned s (Err Over))
    (cond (eqb (group_of r) 0) (with_tree m (tree_unit r m.positions m.nodes))
    (cond (eqb (group_of r) 1) (with_forces m (advanced_of r r.used) (force_unit r m.positions m.affinities m.indices m.offsets m.nodes m.forces))
    (with_finish m (finish_unit r m.positions m.increments m.gains m.forces))))
