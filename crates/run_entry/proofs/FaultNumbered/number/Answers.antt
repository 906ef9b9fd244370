-- `Fault::number` meets its contract: by the case.
use Rattle.run_entry.specs.Entry.{fault_number}
use Rattle.run_entry.proofs.FaultNumbered.number.Goals as goal

pub returns-in-Settings : goal.returns-in-Settings
unfolding fault_number
returns-in-Settings c = rw c.in-Settings.is

pub returns-in-Counters : goal.returns-in-Counters
unfolding fault_number
returns-in-Counters c = rw c.in-Counters.is

pub returns-in-Areas : goal.returns-in-Areas
unfolding fault_number
returns-in-Areas c = rw c.in-Areas.is

pub returns-in-Offsets : goal.returns-in-Offsets
unfolding fault_number
returns-in-Offsets c = rw c.in-Offsets.is

pub returns-in-Index : goal.returns-in-Index
unfolding fault_number
returns-in-Index c = rw c.in-Index.is

pub returns-in-Tree : goal.returns-in-Tree
unfolding fault_number
returns-in-Tree c = rw c.in-Tree.is
