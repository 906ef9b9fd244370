-- `desk_strip::hand_told` meets its contract: from what its calls promise.
use Rattle.desk_strip.specs.HostStrip.{hand_told}
use Rattle.desk_strip.proofs.hand_told.Goals as goal

pub returns-in-Ok : goal.returns-in-Ok
unfolding hand_told
returns-in-Ok c =
    rw c.in-Ok.is

pub returns-in-Err : goal.returns-in-Err
unfolding hand_told
returns-in-Err c =
    rw c.in-Err.is c.place_told.ensures
