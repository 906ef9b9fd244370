-- `replay_arena::marks::marked` meets its contract: the cells below i are marked.
use Rattle.std.specs.Prelude.{replicate}
use Rattle.laws.proofs.Loops.{Loops}
use Rattle.replay_arena.specs.Marks.{mark_step, marked_cell}
use Rattle.replay_arena.proofs.marks.marked.Given as goal

abbrev pub invariant-loop-i : goal.invariant-loop-i
invariant-loop-i l = Loops mark_step 512 (replicate 512 (marked_cell 0)) l.i l.cells
