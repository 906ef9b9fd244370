-- `bench_printout::put_told` meets its contract: from what its calls promise.
use Rattle.bench_printout.specs.Printed.{told_text}
use Rattle.bench_printout.proofs.put_told.Goals as goal

pub returns-in-Err : goal.returns-in-Err
unfolding told_text
returns-in-Err c =
    rw c.in-Err.is c.put_fault.ensures

pub returns-in-Ok : goal.returns-in-Ok
unfolding told_text
returns-in-Ok c =
    rw c.in-Ok.is c.put_answer.ensures
