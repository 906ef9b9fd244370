-- `replay_arena::marks::same_cells` meets its contract: the cells below i are the same.
use mathlib.Core.Bool.{true}
use mathlib.Core.Path.{◌≡◌}
use Rattle.laws.specs.Loops.{every}
use Rattle.std.specs.Prelude.{slice_index_or}
use Rattle.replay_arena.specs.Marks.{cell_stands, no_cell}
use Rattle.replay_arena.proofs.marks.same_cells.Given as goal

abbrev pub invariant-loop-i : goal.invariant-loop-i
invariant-loop-i l = every (λ j. cell_stands (slice_index_or l.a j no_cell) (slice_index_or l.b j no_cell)) l.i ≡ true
