-- `take_out::take_tested` meets its contract: by `tested-bad`, `tested-denied`, `tested-done`, `tested-count`, `tested-room`, `survivors-few`.
use Rattle.take_out.proofs.Tested.{tested-bad, tested-denied, tested-done, tested-count, tested-room}
use Rattle.take_out.specs.TakeOut.{holdings}
use Rattle.take_gone.proofs.Left.{survivors-few}
use Rattle.run_entry.specs.Entry.{is_fine}
use Rattle.std.specs.Result.{result_from_control_flow}
use Rattle.std.proofs.lemmas.Result.{err_from_is_err_and}
use mathlib.Core.Path.{refl, sym, ap, ◌∙◌}
use native.Mathlib.Omega.{arith}
use Rattle.take_out.proofs.take_tested.Goals as goal

pub returns-in_err-f : goal.returns-in_err-f
returns-in_err-f c =
    let p = err_from_is_err_and c.from_residual.result c.from_residual.ensures.1 in
    rw (p.1, p.2) (tested-bad c.args.f c.args.run.now c.args.gone.now _ _ (c.branch-f.ensures ∙ ap result_from_control_flow c.in_err-f.is))

pub look_ahead-requires : goal.look_ahead-requires
look_ahead-requires c =
    (c.requires (ap is_fine (c.branch-f.ensures ∙ ap result_from_control_flow c.in_ok-f.is))).outlook-room

pub returns-in_err-left : goal.returns-in_err-left
returns-in_err-left c =
    let p = err_from_is_err_and c.from_residual-in_err-left.result c.from_residual-in_err-left.ensures.1 in
    rw (p.1, p.2) (tested-denied c.args.f c.args.run.now c.args.gone.now
    (holdings c.args.positions.now c.args.increments.now c.args.gains.now c.args.affinities.now
    c.args.indices.now c.args.offsets.now c.args.forces.now c.args.table.now c.args.old.now)
    (ap is_fine (c.branch-f.ensures ∙ ap result_from_control_flow c.in_ok-f.is)) _ c.in_err-left.ensures)

pub thinned_run-requires : goal.thinned_run-requires
thinned_run-requires c =
    let t = c.requires (ap is_fine (c.branch-f.ensures ∙ ap result_from_control_flow c.in_ok-f.is)) in (
      omega (
        arith,
        tested-count c.args.run.now c.args.gone.now
            (holdings c.args.positions.now c.args.increments.now c.args.gains.now c.args.affinities.now
            c.args.indices.now c.args.offsets.now c.args.forces.now c.args.table.now c.args.old.now)
            c.in_ok-left.ensures,
        survivors-few c.args.gone.now c.args.run.now.settings.n,
        t.outlook-room.settings-good.n-most,
      ),
      t.done-most,
    )

pub pack_run-requires : goal.pack_run-requires
pack_run-requires c =
    tested-room c.args.run.now c.args.gone.now
    (holdings c.args.positions.now c.args.increments.now c.args.gains.now c.args.affinities.now
    c.args.indices.now c.args.offsets.now c.args.forces.now c.args.table.now c.args.old.now)
    c.in_ok-left.ensures (c.requires (ap is_fine (c.branch-f.ensures ∙ ap result_from_control_flow c.in_ok-f.is)))

pub shape_of-positions : goal.shape_of-positions
shape_of-positions c =
    c.pack_run.auto.positions

pub shape_of-increments : goal.shape_of-increments
shape_of-increments c =
    c.pack_run.auto.increments

pub shape_of-gains : goal.shape_of-gains
shape_of-gains c =
    c.pack_run.auto.gains

pub shape_of-affinities : goal.shape_of-affinities
shape_of-affinities c =
    c.pack_run.auto.affinities

pub shape_of-indices : goal.shape_of-indices
shape_of-indices c =
    c.pack_run.auto.indices

pub shape_of-offsets : goal.shape_of-offsets
shape_of-offsets c =
    c.pack_run.auto.offsets

pub shape_of-forces : goal.shape_of-forces
shape_of-forces c =
    c.pack_run.auto.forces

pub shape_of-table : goal.shape_of-table
shape_of-table c =
    c.pack_run.auto.table

pub shape_of-old : goal.shape_of-old
shape_of-old c =
    c.pack_run.auto.old

pub returns : goal.returns
returns c =
    tested-done c.args.f c.args.run.now c.args.gone.now
    (holdings c.args.positions.now c.args.increments.now c.args.gains.now c.args.affinities.now
    c.args.indices.now c.args.offsets.now c.args.forces.now c.args.table.now c.args.old.now)
    (ap is_fine (c.branch-f.ensures ∙ ap result_from_control_flow c.in_ok-f.is)) _ c.in_ok-left.ensures _ _ c.thinned_run.ensures c.pack_run.ensures
