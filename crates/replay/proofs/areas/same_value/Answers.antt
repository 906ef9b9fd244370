-- `replay::areas::same_value` meets its contract: from what its calls promise.
use Rattle.replay.proofs.areas.same_value.Goals as goal

pub returns : goal.returns
returns c =
    rw (c.bits_of.ensures, c.word_at.ensures)
