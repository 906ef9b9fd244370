-- `replay_areas::bytes::byte_at` meets its contract: from what its calls promise.
use Rattle.replay_areas.specs.Said.{list_byte}
use Rattle.replay_areas.proofs.bytes.byte_at.Goals as goal

pub returns : goal.returns
unfolding list_byte
returns c =
    rw (c.word_at-w.ensures, c.plus.ensures)
