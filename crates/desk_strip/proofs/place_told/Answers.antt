-- `desk_strip::place_told` meets its contract: from what its calls promise.
use Rattle.desk_strip.specs.HostStrip.{place_told}
use Rattle.desk_strip.proofs.place_told.Goals as goal

pub returns-in-Outside : goal.returns-in-Outside
unfolding place_told
returns-in-Outside c =
    rw c.in-Outside.is

pub returns-in-Early : goal.returns-in-Early
unfolding place_told
returns-in-Early c =
    rw c.in-Early.is

pub returns-in-Barred : goal.returns-in-Barred
unfolding place_told
returns-in-Barred c =
    rw c.in-Barred.is

pub returns-in-Short : goal.returns-in-Short
unfolding place_told
returns-in-Short c =
    rw c.in-Short.is

pub returns-in-Bad : goal.returns-in-Bad
unfolding place_told
returns-in-Bad c =
    rw c.in-Bad.is c.fault_value.ensures
