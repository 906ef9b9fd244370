-- Writing with its answer in words: no word, or the call's outcome; a law for each.
use Rattle.desk_monitor.proofs.Laws.{write-mute, write-answered}
use Rattle.desk_monitor.proofs.host_monitor_write.Goals as goal

pub returns-then-answer-eq0 : goal.returns-then-answer-eq0
returns-then-answer-eq0 c =
    write-mute c.args.n c.args.pictures.now c.args.sides.now c.args.fields.now
    c.args.positions.now c.args.target.now c.args.answer.now c.if-answer-eq0.true

pub returns : goal.returns
returns c =
    write-answered c.args.n c.args.pictures.now c.args.sides.now c.args.fields.now
    c.args.positions.now c.args.target.now c.args.answer.now c.if-answer-eq0.false c.write_monitor-a.ensures
    c.monitored_told.ensures c.number.ensures
