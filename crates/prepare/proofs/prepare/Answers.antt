-- `prepare::prepare` meets its contract: by `route-room`, `refused-outcome`, `ready-is`.
use Rattle.std.proofs.lemmas.Result.{err_from_is_err_and}
use Rattle.prepare.proofs.Laws.{passed, route-room, refused-outcome, ready-is}
use Rattle.prepare.specs.Prepare.{lent}
use Rattle.run_record.specs.Record.{sizes_of}
use mathlib.Core.Path.{refl, sym}
use Rattle.refusal.proofs.Numbers.{refusal-some}
use native.Mathlib.Omega.{arith}
use Rattle.prepare.proofs.prepare.Goals as goal

pub returns-in_err-prepare_fault : goal.returns-in_err-prepare_fault
returns-in_err-prepare_fault c =
    let p = err_from_is_err_and c.from_residual.result c.from_residual.ensures.1 in
    rw (p.1, p.2) (refused-outcome _ _ _ _
    (lent c.args.positions.now c.args.increments.now c.args.gains.now c.args.affinities.now
    c.args.indices.now c.args.offsets.now c.args.forces.now c.args.row_values.now
    c.args.row_indices.now) c.in_err-prepare_fault.ensures (refusal-some c.in_err-prepare_fault.field-0.0))

pub sizes_of-z-requires : goal.sizes_of-z-requires
sizes_of-z-requires c =
    (passed _ _ _ _ (sym c.in_ok-prepare_fault.ensures)).good

pub route-requires : goal.route-requires
route-requires c =
    route-room _ _ _ _ (passed _ _ _ _ (sym c.in_ok-prepare_fault.ensures))

pub set_out-requires : goal.set_out-requires
unfolding sizes_of
set_out-requires c =
    let f = (passed _ _ _ _ (sym c.in_ok-prepare_fault.ensures)) in
    rw c.sizes_of-z.ensures (
      omega (arith, f.start_is),
      f.areas.positions-long,
      f.areas.increments-long,
      f.areas.gains-long,
      omega
          (arith, f.areas.forces-long, c.route.auto.squares),
    )

pub returns : goal.returns
unfolding sizes_of
returns c =
    ready-is _ _ _ _ (lent c.args.positions.now c.args.increments.now c.args.gains.now c.args.affinities.now
    c.args.indices.now c.args.offsets.now c.args.forces.now c.args.row_values.now
    c.args.row_indices.now) c.in_ok-prepare_fault.ensures refl c.fresh_run.ensures c.route.ensures.row_indices_after
    (rw c.sizes_of-z.ensures at c.set_out.ensures).0 (rw c.sizes_of-z.ensures at c.set_out.ensures).1
    (rw c.sizes_of-z.ensures at c.set_out.ensures).2 c.route.ensures.squares_after (rw c.sizes_of-z.ensures at c.set_out.ensures).3
