-- An arena of which the first k cells are lent: what they hold, and what becomes of them. Definitions only.
use Rattle.std.specs.Prelude.{◌≡◌, ℕ, ◌<◌, ◌≤◌, Bool, true, List, length, take, drop}
use Rattle.laws.specs.Domain.{most_word}
use Rattle.tree_node.specs.declared.Node.{Node}
use Rattle.tree_node.specs.declared.Cell.{Cell}
use Rattle.tree_node.specs.Arena.{nodes_of}
use Rattle.tree.specs.declared.Inserted.{Inserted}
use Rattle.tree.specs.Insert.{tree, Insertion, insertion, shaped}
use Rattle.tree.specs.Contents.{contents_of, contents_fine}
use Rattle.replay_arena.specs.declared.Put.{Put}

-- the nodes of the first k cells, and the cells behind them
abbrev pub front : ℕ → List Cell → List Node
front k cs = nodes_of (take k cs)

abbrev pub behind : ℕ → List Cell → List Cell
behind k cs = drop k cs

-- the first k cells, of which `used` are in use, are well formed for n points
abbrev pub fine_of : ℕ → ℕ → ℕ → ℕ → List Cell → Bool
fine_of k used n c cs = contents_fine (contents_of n c (tree used (front k cs)))

-- they are a tree that a force walk may go through
abbrev pub Walkable : ℕ → ℕ → ℕ → List Cell → Type 0
Walkable k used c cs = (0 < used) × (used ≤ length (take k cs)) × (used ≤ most_word) × (shaped c (tree used (front k cs)) ≡ true)

-- what an insertion answered, with the cells, and the insertion that it tells of
abbrev pub put_of : Inserted → List Cell → Put
put_of a cs = record { cells = cs; full = a.full; used = a.used }

abbrev pub told_by : ℕ → Put → Insertion
told_by k p = insertion p.full (tree p.used (front k p.cells))

-- an arena that is not well formed takes nothing
abbrev pub nothing_put : List Cell → Put
nothing_put cs = record { cells = cs; full = true; used = 0 }
