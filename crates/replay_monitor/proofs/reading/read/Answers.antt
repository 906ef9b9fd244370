-- `read` is safe: each area that is lent is the front of one that is long enough.
use mathlib.Core.Path.{sym}
use lib.Seq.{length-take-le}
use borrow.Author.Rules.{rules}
use Rattle.replay_monitor.proofs.reading.read.Goals as goal

pub slice_bounds-host_monitor_read-end : goal.slice_bounds-host_monitor_read-end
slice_bounds-host_monitor_read-end c =
    sym (length-take-le _ _ (search rules))

pub slice_bounds-host_monitor_read-end-2 : goal.slice_bounds-host_monitor_read-end-2
slice_bounds-host_monitor_read-end-2 c =
    sym (length-take-le _ _ (search rules))

pub slice_bounds-host_monitor_read-end-3 : goal.slice_bounds-host_monitor_read-end-3
slice_bounds-host_monitor_read-end-3 c =
    sym (length-take-le _ _ (search rules))

pub slice_bounds-host_monitor_read-end-4 : goal.slice_bounds-host_monitor_read-end-4
slice_bounds-host_monitor_read-end-4 c =
    sym (length-take-le _ _ (search rules))

pub slice_bounds-host_monitor_read-end-5 : goal.slice_bounds-host_monitor_read-end-5
slice_bounds-host_monitor_read-end-5 c =
    sym (length-take-le _ _ (search rules))
