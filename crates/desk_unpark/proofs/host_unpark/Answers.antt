-- `desk_unpark::host_unpark` meets its contract: by `mute-left`, `unparked-left`.
use Rattle.desk_unpark.proofs.Laws.{mute-left, unparked-left}
use Rattle.desk_unpark.proofs.host_unpark.Goals as goal

pub returns-then-answer-eq0 : goal.returns-then-answer-eq0
returns-then-answer-eq0 c =
    mute-left _ _ _ _ _ c.if-answer-eq0.true

pub returns : goal.returns
returns c =
    unparked-left _ _ _ _ _ c.if-answer-eq0.false _ _ _ c.unpark-u.ensures _ _ (rw c.unparked_told.ensures at c.put_told.ensures)
