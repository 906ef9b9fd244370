use Rattle.laws.proofs.Loops.{loop-next, loop-done}
use native.Mathlib.Omega.{arith}
use Rattle.gradient_pairs.proofs.exact.Map.add_frames.Goals as goal

pub loop-k-preserved : goal.loop-k-preserved
loop-k-preserved c =
    rw c.add_frame-so_far.ensures (loop-next c.loop-k.invariant (omega arith))

pub returns : goal.returns
returns c =
    loop-done c.loop-k.invariant (omega arith)
