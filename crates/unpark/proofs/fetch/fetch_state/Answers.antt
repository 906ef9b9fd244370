-- `unpark::fetch::fetch_state` meets its contract: from what its calls promise.
use Rattle.unpark.proofs.Spans.{spans}
use Rattle.unpark.proofs.fetch.fetch_state.Goals as goal

pub fetch_words-requires : goal.fetch_words-requires
fetch_words-requires c =
    (c.requires.2, (spans _ c.requires.0 _ c.requires.1).positions)

pub fetch_words-requires-2 : goal.fetch_words-requires-2
fetch_words-requires-2 c =
    (c.requires.3, (spans _ c.requires.0 _ c.requires.1).increments)

pub fetch_words-requires-3 : goal.fetch_words-requires-3
fetch_words-requires-3 c =
    (c.requires.4, (spans _ c.requires.0 _ c.requires.1).gains)

pub returns : goal.returns
returns c =
    record { positions_after = c.fetch_words.ensures; increments_after = c.fetch_words-2.ensures; gains_after = c.fetch_words-3.ensures }
