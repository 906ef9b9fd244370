-- `desk_salvage::host_salvage` meets its contract: an answer without two words, and what the call told. Assumes nothing.
use Rattle.desk_salvage.proofs.Laws.{wordless-left, salvaged-left}
use Rattle.desk_salvage.proofs.host_salvage.Goals as goal

pub returns-then-answer-lt2 : goal.returns-then-answer-lt2
returns-then-answer-lt2 c =
    wordless-left _ _ _ _ _ c.if-answer-lt2.true

pub returns : goal.returns
returns c =
    salvaged-left _ _ _ _ _ c.if-answer-lt2.false _ _ _ _ c.salvage-s.ensures _ _ c.put_salvaged.ensures
