-- `replay_park::reading::same_again` meets its contract: each need follows from its own premises.
use mathlib.Core.Path.{sym}
use lib.Seq.{length-take-le}
use borrow.Author.Rules.{rules}
use Rattle.replay_park.proofs.reading.same_again.Goals as goal

pub slice_bounds-park_in-end : goal.slice_bounds-park_in-end
slice_bounds-park_in-end c =
    sym (length-take-le _ _ (search rules))
