-- `descent::work` meets its contract: by `call_asks`, `call-done`, `call-bad`.
use Rattle.descent.proofs.Calls.{call_asks, call-done, call-bad}
use Rattle.descent.proofs.work.Goals as goal

pub returns-in-Err : goal.returns-in-Err
returns-in-Err c =
    call-bad _ c.args.positions.now c.args.increments.now c.args.gains.now c.args.affinities.now c.args.indices.now c.args.offsets.now c.args.forces.now c.args.cells.now
    _ c.fault_at.ensures _ c.in-Err.is _

pub go_on-t-requires : goal.go_on-t-requires
go_on-t-requires c =
    call_asks _ c.args.positions.now c.args.increments.now c.args.gains.now c.args.affinities.now c.args.indices.now c.args.offsets.now c.args.forces.now c.args.cells.now
    _ c.fault_at.ensures c.in_default.is

pub returns : goal.returns
returns c =
    call-done _ c.args.positions.now c.args.increments.now c.args.gains.now c.args.affinities.now c.args.indices.now c.args.offsets.now c.args.forces.now c.args.cells.now
    _ c.fault_at.ensures c.in_default.is _ c.go_on-t.result _ _ _ _ c.go_on-t.new.cells c.go_on-t.ensures
