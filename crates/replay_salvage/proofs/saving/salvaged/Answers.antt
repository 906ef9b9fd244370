-- `saving::salvaged` is safe: every area that is lent fits its array. Assumes nothing.
use mathlib.Core.Path.{sym}
use lib.Seq.{length-take-le}
use borrow.Author.Rules.{rules}
use Rattle.replay_salvage.proofs.saving.salvaged.Goals as goal

pub slice_bounds-host_salvage-end : goal.slice_bounds-host_salvage-end
slice_bounds-host_salvage-end c =
    sym (length-take-le _ _ (search rules))

pub slice_bounds-host_salvage-end-2 : goal.slice_bounds-host_salvage-end-2
slice_bounds-host_salvage-end-2 c =
    sym (length-take-le _ _ (search rules))

pub slice_bounds-host_salvage-end-3 : goal.slice_bounds-host_salvage-end-3
slice_bounds-host_salvage-end-3 c =
    sym (length-take-le _ _ (search rules))

pub slice_bounds-host_salvage-end-4 : goal.slice_bounds-host_salvage-end-4
slice_bounds-host_salvage-end-4 c =
    sym (length-take-le _ _ (search rules))
