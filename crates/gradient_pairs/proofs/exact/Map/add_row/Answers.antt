use Rattle.laws.proofs.Loops.{loop-next, loop-done}
use native.Mathlib.Omega.{arith}
use Rattle.gradient_pairs.proofs.exact.Map.add_row.Goals as goal

pub loop-j-preserved : goal.loop-j-preserved
loop-j-preserved c =
    rw c.num-s.ensures (loop-next c.loop-j.invariant (omega arith))

pub returns : goal.returns
returns c =
    loop-done c.loop-j.invariant (omega arith)
