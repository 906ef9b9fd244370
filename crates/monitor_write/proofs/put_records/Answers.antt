use mathlib.Core.Path.{◌∙◌}
use Rattle.laws.proofs.Laid.{lays-start, lays-done}
use Rattle.monitor_write.proofs.Laws.{records-next, row-size, single-or}
use Rattle.monitor_write.specs.MonitorWrite.{monitor_row}
use Rattle.monitor_write.proofs.put_records.Goals as goal

pub loop-i-init : goal.loop-i-init
loop-i-init c =
    lays-start 16 _

pub loop-i-preserved : goal.loop-i-preserved
unfolding monitor_row
loop-i-preserved c =
    records-next c.loop-i.invariant c.loop-i-test.true c.requires.target-long
    (row-size c.args.pictures.now c.args.sides.now c.args.fields.now c.args.positions.now c.loop-i.i)
    c.put_record.auto.target (rw (
      c.unwrap_or-x.ensures ∙ single-or c.narrow.result,
      c.narrow.ensures,
      c.unwrap_or-y.ensures ∙ single-or c.narrow-in-loop-i.result,
      c.narrow-in-loop-i.ensures,
    ) at c.put_record.ensures)

pub shape_of-target : goal.shape_of-target
shape_of-target c =
    c.loop-i.invariant.size

pub returns : goal.returns
returns c =
    lays-done 16 _ c.loop-i.invariant c.loop-i-test.false
