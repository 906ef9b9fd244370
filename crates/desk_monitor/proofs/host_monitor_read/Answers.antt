-- Reading with its answer in words: no word, or the call's outcome; a law for each.
use Rattle.desk_monitor.proofs.Laws.{read-mute, read-answered}
use Rattle.desk_monitor.proofs.host_monitor_read.Goals as goal

pub returns-then-answer-eq0 : goal.returns-then-answer-eq0
returns-then-answer-eq0 c =
    read-mute c.args.file.now c.args.pictures.now c.args.sides.now c.args.fields.now
    c.args.positions.now c.args.answer.now c.if-answer-eq0.true

pub returns : goal.returns
returns c =
    read-answered c.args.file.now c.args.pictures.now c.args.sides.now c.args.fields.now
    c.args.positions.now c.args.answer.now c.if-answer-eq0.false c.read_monitor-a.ensures c.read_told.ensures
    c.number.ensures
