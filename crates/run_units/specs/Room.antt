-- What the parts of a unit ask of lengths and numbers; the entry tests have shown it. Definitions only.
use Rattle.std.specs.Prelude.{List, ◌≡◌, true, false, ℕ, ◌+◌, ◌-◌, ◌*◌, ◌<◌, ◌≤◌, length, Float}
use Rattle.run_record.specs.declared.Run.{Run}
use Rattle.run_record.specs.Record.{is_tree}
use Rattle.run_finish.specs.FinishRoom.{Small}
use Rattle.tree_node.specs.declared.Node.{Node}
use Rattle.tree_node.specs.Node.{Axes}
use Rattle.tree_node.specs.Arena.{nameable}
use Rattle.tree.specs.Insert.{tree, shaped, growable}
use Rattle.gradient.specs.Forces.{Linked}

pub record TreeRoom (r : Run) (p : ℕ) (ns : List Node) : Type 0 where
  pub numbers : Small r
  pub axes : Axes r.settings.c
  pub phase-in : r.phase ≤ r.settings.n
  pub positions-in : r.settings.n * r.settings.c ≤ p
  pub nodes-some : 0 < length ns
  pub used-some : (r.phase ≡ 0 → ⊥) → 0 < r.used
  pub used-in : (r.phase ≡ 0 → ⊥) → r.used ≤ nameable (length ns)
  pub sound : (r.phase ≡ 0 → ⊥) → growable r.settings.n r.settings.c (tree r.used ns) ≡ true

-- a unit of the forces: a point's of a Barnes-Hut run, else a row of the total or of the gradient
pub record ForceRoom (r : Run) (p a f : ℕ) (W : List Float) (xs off : List ℕ) (ns : List Node) : Type 0 where
  pub numbers : Small r
  pub c-most : r.settings.c ≤ 8
  pub phase-most : r.phase ≤ 2 * r.settings.n
  pub positions-in : r.settings.n * r.settings.c ≤ p
  pub forces-in : r.settings.n * (2 * r.settings.c + 1) ≤ f
  pub total-in : r.settings.n * r.settings.c < f
  pub phase-tree : is_tree r.settings.method ≡ true → r.settings.n < r.phase
  pub axes : is_tree r.settings.method ≡ true → Axes r.settings.c
  pub used-some : is_tree r.settings.method ≡ true → 0 < r.used
  pub used-in : is_tree r.settings.method ≡ true → r.used ≤ nameable (length ns)
  pub sound : is_tree r.settings.method ≡ true → shaped r.settings.c (tree r.used ns) ≡ true
  pub linked : is_tree r.settings.method ≡ true → Linked r.settings.n W xs off (r.phase - r.settings.n - 1)
  pub phase-exact : is_tree r.settings.method ≡ false → r.phase < 2 * r.settings.n
  pub square-in : is_tree r.settings.method ≡ false → r.settings.n * r.settings.n ≤ a

-- a row of an exact run
pub record RowRoom (r : Run) (p a f : ℕ) : Type 0 where
  pub c-most : r.settings.c ≤ 8
  pub phase-in : r.phase < 2 * r.settings.n
  pub positions-in : r.settings.n * r.settings.c ≤ p
  pub square-in : r.settings.n * r.settings.n ≤ a
  pub total-in : r.settings.n * r.settings.c < f
