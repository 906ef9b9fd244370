-- The call: the test of the areas, then the first faulty frame, then the records; one law for each outcome.
use mathlib.Core.Path.{sym, ◌∙◌}
use Rattle.monitor_write.proofs.Laws.{write-lies, writing-short, writing-fault, writing-whole}
use native.Mathlib.Omega.{arith}
use Rattle.monitor_write.proofs.write_monitor.Goals as goal

pub returns-then-not-room : goal.returns-then-not-room
returns-then-not-room c =
    writing-short c.args.n c.args.pictures.now c.args.sides.now c.args.fields.now
    c.args.positions.now c.args.target.now (sym c.room.ensures ∙ c.if-not-room.true)

pub first_faulty-k-requires : goal.first_faulty-k-requires
first_faulty-k-requires c =
    (write-lies _ _ _ _ _ _ (sym c.room.ensures ∙ c.if-not-room.false)).frames

pub fault_told-requires : goal.fault_told-requires
fault_told-requires c = (
  omega (arith, c.if-k-n.true, (write-lies _ _ _ _ _ _ (sym c.room.ensures ∙ c.if-not-room.false)).frames.pictures-long),
  omega
      (arith, c.if-k-n.true, (write-lies _ _ _ _ _ _ (sym c.room.ensures ∙ c.if-not-room.false)).frames.sides-long),
  omega
      (arith, c.if-k-n.true, (write-lies _ _ _ _ _ _ (sym c.room.ensures ∙ c.if-not-room.false)).frames.fields-long),
)

pub returns-then-k-n : goal.returns-then-k-n
returns-then-k-n c =
    writing-fault c.args.n c.args.pictures.now c.args.sides.now c.args.fields.now
    c.args.positions.now c.args.target.now (sym c.room.ensures ∙ c.if-not-room.false) _ c.first_faulty-k.ensures _
    c.if-k-n.true c.fault_told.ensures

pub put_records-requires : goal.put_records-requires
put_records-requires c =
    (write-lies _ _ _ _ _ _ (sym c.room.ensures ∙ c.if-not-room.false))

pub returns : goal.returns
returns c =
    writing-whole c.args.n c.args.pictures.now c.args.sides.now c.args.fields.now
    c.args.positions.now c.args.target.now (sym c.room.ensures ∙ c.if-not-room.false) _ c.first_faulty-k.ensures _
    c.if-k-n.false c.put_records.ensures
