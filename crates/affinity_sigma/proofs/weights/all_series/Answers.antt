use Rattle.laws.proofs.Loops.{loop-start, loop-next, loop-done}
use native.Mathlib.Omega.{arith}
use Rattle.affinity_sigma.proofs.weights.all_series.Goals as goal

pub loop-t-init : goal.loop-t-init
loop-t-init c =
    loop-start _ _ _

pub rest-requires : goal.rest-requires
rest-requires c =
    c.requires _ c.loop-t-test.true

pub loop-t-preserved : goal.loop-t-preserved
loop-t-preserved c =
    rw (c.series_at.ensures, c.rest.ensures) (loop-next c.loop-t.invariant (omega arith))

pub returns : goal.returns
returns c =
    loop-done c.loop-t.invariant (omega arith)
