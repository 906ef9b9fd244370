use Rattle.laws.proofs.Every.{every-at}
use Rattle.laws.proofs.Loops.{loop-start, loop-next, loop-done}
use native.Mathlib.Omega.{arith}
use Rattle.affinity_sigma.proofs.weights.all_halvings.Goals as goal

pub loop-t-init : goal.loop-t-init
loop-t-init c =
    loop-start _ _ _

pub halvings-requires : goal.halvings-requires
halvings-requires c =
    every-at _ _ c.requires _ c.loop-t-test.true

pub loop-t-preserved : goal.loop-t-preserved
loop-t-preserved c =
    rw c.halvings.ensures (loop-next c.loop-t.invariant (omega arith))

pub returns : goal.returns
returns c =
    loop-done c.loop-t.invariant (omega arith)
