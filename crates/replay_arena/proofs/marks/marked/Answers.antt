-- `replay_arena::marks::marked` meets its contract: by the laws of its loop.
use Rattle.laws.proofs.Loops.{loop-start, loop-next, loop-done}
use native.Mathlib.Omega.{arith}
use Rattle.replay_arena.proofs.marks.marked.Goals as goal

pub loop-i-init : goal.loop-i-init
loop-i-init c = rw c.marked_cell-v.ensures (loop-start _ _ _)

pub loop-i-preserved : goal.loop-i-preserved
loop-i-preserved c = rw c.marked_cell-w.ensures (loop-next c.loop-i.invariant (omega arith))

pub returns : goal.returns
returns c = loop-done c.loop-i.invariant (omega arith)
