-- `replay_import::loading::same_again` meets its contract: each need follows from its own premises.
use mathlib.Core.Path.{sym}
use lib.Seq.{length-take-le}
use borrow.Author.Rules.{rules}
use Rattle.replay_import.proofs.loading.same_again.Goals as goal

pub slice_bounds-lists_in-end : goal.slice_bounds-lists_in-end
slice_bounds-lists_in-end c =
    sym (length-take-le _ _ (search rules))
