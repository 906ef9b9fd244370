-- `desk_work::is_unread` meets its contract: from what its calls promise.
use Rattle.desk_work.proofs.is_unread.Goals as goal

pub returns : goal.returns
returns c =
    rw c.run_fine.ensures
