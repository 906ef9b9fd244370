-- `parked::head_word` meets its contract: by `head-told`.
use Rattle.parked.proofs.Laws.{head-told}
use Rattle.parked.proofs.head_word.Goals as goal

pub returns : goal.returns
returns c =
    head-told _ _ _ _ c.angle_word-angle.ensures
