-- How many points are in the tree of a run, from the units done alone. Definitions only.
use Rattle.std.specs.Prelude.{◌≡◌, ℕ, ◌+◌, ◌-◌, ◌*◌, ◌%◌, min}
use Rattle.tree.specs.Insert.{Tree, tree}
use Rattle.tree_worth.specs.Worth.{Worth}
use Rattle.run_entry.specs.State.{State}

-- the insertion units done in the current iteration of a Barnes-Hut run of n frames, after u units in all: those of the iteration, less one for the box, n at most
abbrev pub insertions_in : ℕ → ℕ → ℕ
insertions_in n u = min (u % (2 * n + 2) - 1) n

-- between an iteration's box and its finish
abbrev pub Midway : ℕ → ℕ → Type 0
Midway n u = u % (2 * n + 2) ≡ 0 → ⊥

-- the tree that a state holds
abbrev pub tree_in : State → Tree
tree_in s = tree s.run.used s.memory.nodes

-- it is worth what i points in c components make it
abbrev pub TreeWorth : ℕ → ℕ → State → Type 0
TreeWorth c i s = Worth s.memory.positions c i (tree_in s)
