-- `run_budget::go_on` meets its contract: by `calls-start`, `calls-workable`, `calls-fits`, `calls-nearer`, `calls-next`, `calls-end`.
use Rattle.run_budget.proofs.Lends.{calls-start, calls-workable, calls-fits, calls-next, calls-nearer, calls-end}
use native.Mathlib.Omega.{arith}
use Rattle.run_budget.proofs.go_on.Goals as goal

pub loop-x-init : goal.loop-x-init
loop-x-init c = calls-start _ _ _ c.requires _ c.started-g.ensures

pub one_unit-t-requires : goal.one_unit-t-requires
one_unit-t-requires c = calls-workable _ _ _ _ c.loop-x.invariant _ c.goes_on.ensures c.loop-x-test.true

pub onward-h-requires : goal.onward-h-requires
onward-h-requires c = calls-fits _ _ _ _ c.loop-x.invariant _ c.goes_on.ensures c.loop-x-test.true (omega arith)

pub loop-x-smaller : goal.loop-x-smaller
loop-x-smaller c =
    calls-nearer _ _ _ _ c.loop-x.invariant _ c.goes_on.ensures c.loop-x-test.true c.one_unit-t.result _ c.one_unit-t.ensures _ c.onward-h.ensures

pub loop-x-preserved : goal.loop-x-preserved
loop-x-preserved c =
    calls-next _ _ _ _ c.loop-x.invariant _ c.goes_on.ensures c.loop-x-test.true c.one_unit-t.result _ c.one_unit-t.ensures _ c.onward-h.ensures

pub returns : goal.returns
returns c = calls-end _ _ _ _ c.loop-x.invariant _ c.goes_on.ensures c.loop-x-test.false _ c.ended-w.ensures
