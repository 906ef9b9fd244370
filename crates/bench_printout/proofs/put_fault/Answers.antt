-- `bench_printout::put_fault` meets its contract: from what its calls promise.
use Rattle.bench_printout.specs.Printed.{fault_text}
use Rattle.bench_mapping.specs.Mapping.{map_number}
use Rattle.bench_printout.proofs.put_fault.Goals as goal

pub returns-in-Long : goal.returns-in-Long
unfolding fault_text map_number
returns-in-Long c =
    rw c.in-Long.is (rw (c.number-k.ensures, c.in-Long.is) at c.put_refusal.ensures)

pub returns-in-Record : goal.returns-in-Record
unfolding fault_text map_number
returns-in-Record c =
    rw c.in-Record.is (rw (c.number-k.ensures, c.in-Record.is) at c.put_record.ensures)

pub returns-in-Refused : goal.returns-in-Refused
unfolding fault_text map_number
returns-in-Refused c =
    rw c.in-Refused.is (rw (c.number-k.ensures, c.in-Refused.is) at c.put_refusal-in-Refused.ensures)
