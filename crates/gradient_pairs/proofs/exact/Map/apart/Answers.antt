use Rattle.tree_bodies.specs.Bodies.{gap_of}
use Rattle.laws.proofs.Loops.{loop-next, loop-done}
use native.Mathlib.Omega.{arith}
use Rattle.gradient_pairs.proofs.exact.Map.apart.Goals as goal

pub loop-d-preserved : goal.loop-d-preserved
loop-d-preserved c =
    loop-next c.loop-d.invariant (omega arith)

pub returns : goal.returns
unfolding gap_of
returns c =
    loop-done c.loop-d.invariant (omega arith)
