-- `unpark::fetch::fetch_lists` meets its contract: by `narrow-indices`, `narrow-offsets`.
use mathlib.Core.Path.{refl}
use Rattle.unpark.specs.Unpark.{weights_read, offsets_read}
use Rattle.unpark.proofs.Spans.{spans, narrow-indices, narrow-offsets}
use Rattle.unpark.proofs.fetch.fetch_lists.Goals as goal

pub fetch_numbers-requires : goal.fetch_numbers-requires
fetch_numbers-requires c =
    (c.requires.2.indices-long, (spans _ c.requires.0 _ c.requires.1).indices, narrow-indices _ c.requires.0 _ c.requires.1)

pub fetch_words-requires : goal.fetch_words-requires
fetch_words-requires c =
    (c.requires.2.weights-long c.if-l.true, (spans _ c.requires.0 _ c.requires.1).weights)

pub fetch_numbers-requires-then-l : goal.fetch_numbers-requires-then-l
fetch_numbers-requires-then-l c = (
  c.requires.2.offsets-long c.if-l.true,
  (spans _ c.requires.0 _ c.requires.1).held,
  narrow-offsets _ c.requires.0 _
      c.requires.1 c.if-l.true,
)

pub returns-then-l : goal.returns-then-l
unfolding weights_read offsets_read
returns-then-l c =
    rw c.if-l.true record { affinities_after = c.fetch_words.ensures; indices_after = c.fetch_numbers.ensures; offsets_after = c.fetch_numbers-then-l.ensures }

pub fetch_words-requires-2 : goal.fetch_words-requires-2
fetch_words-requires-2 c =
    (c.requires.2.matrix-long c.if-l.false, (spans _ c.requires.0 _ c.requires.1).held)

pub returns : goal.returns
unfolding weights_read offsets_read
returns c =
    rw c.if-l.false record { affinities_after = c.fetch_words-2.ensures; indices_after = c.fetch_numbers.ensures; offsets_after = refl }
