-- `replay_strip::handing::handed` meets its contract: each need follows from its own premises.
use mathlib.Core.Path.{sym}
use lib.Seq.{length-take-le}
use borrow.Author.Rules.{rules}
use Rattle.replay_strip.proofs.handing.handed.Goals as goal

pub slice_bounds-hand_in-end-2 : goal.slice_bounds-hand_in-end-2
slice_bounds-hand_in-end-2 c =
    sym (length-take-le _ _ (search rules))

pub slice_bounds-hand_in-end-3 : goal.slice_bounds-hand_in-end-3
slice_bounds-hand_in-end-3 c =
    sym (length-take-le _ _ (search rules))

pub slice_bounds-hand_in-end-4 : goal.slice_bounds-hand_in-end-4
slice_bounds-hand_in-end-4 c =
    sym (length-take-le _ _ (search rules))

pub slice_bounds-hand_in-end-5 : goal.slice_bounds-hand_in-end-5
slice_bounds-hand_in-end-5 c =
    sym (length-take-le _ _ (search rules))

pub slice_bounds-hand_in-end-6 : goal.slice_bounds-hand_in-end-6
slice_bounds-hand_in-end-6 c =
    sym (length-take-le _ _ (search rules))

pub slice_bounds-hand_in-end-7 : goal.slice_bounds-hand_in-end-7
slice_bounds-hand_in-end-7 c =
    sym (length-take-le _ _ (search rules))

pub slice_bounds-hand_in-end-8 : goal.slice_bounds-hand_in-end-8
slice_bounds-hand_in-end-8 c =
    sym (length-take-le _ _ (search rules))

pub slice_bounds-hand_in-end-9 : goal.slice_bounds-hand_in-end-9
slice_bounds-hand_in-end-9 c =
    sym (length-take-le _ _ (search rules))

pub slice_bounds-hand_in-end-10 : goal.slice_bounds-hand_in-end-10
slice_bounds-hand_in-end-10 c =
    sym (length-take-le _ _ (search rules))
