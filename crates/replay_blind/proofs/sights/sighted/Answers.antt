-- `sights::sighted` is safe: every area that is lent fits its array. Assumes nothing.
use mathlib.Core.Path.{sym}
use lib.Seq.{length-take-le}
use borrow.Author.Rules.{rules}
use Rattle.replay_blind.proofs.sights.sighted.Goals as goal

pub slice_bounds-host_blind-end : goal.slice_bounds-host_blind-end
slice_bounds-host_blind-end c =
    sym (length-take-le _ _ (search rules))

pub slice_bounds-host_blind-end-2 : goal.slice_bounds-host_blind-end-2
slice_bounds-host_blind-end-2 c =
    sym (length-take-le _ _ (search rules))

pub slice_bounds-host_blind-end-3 : goal.slice_bounds-host_blind-end-3
slice_bounds-host_blind-end-3 c =
    sym (length-take-le _ _ (search rules))

pub slice_bounds-host_blind-end-4 : goal.slice_bounds-host_blind-end-4
slice_bounds-host_blind-end-4 c =
    sym (length-take-le _ _ (search rules))

pub slice_bounds-host_blind-end-5 : goal.slice_bounds-host_blind-end-5
slice_bounds-host_blind-end-5 c =
    sym (length-take-le _ _ (search rules))

pub slice_bounds-host_blind-end-6 : goal.slice_bounds-host_blind-end-6
slice_bounds-host_blind-end-6 c =
    sym (length-take-le _ _ (search rules))

pub slice_bounds-host_blind-end-7 : goal.slice_bounds-host_blind-end-7
slice_bounds-host_blind-end-7 c =
    sym (length-take-le _ _ (search rules))
