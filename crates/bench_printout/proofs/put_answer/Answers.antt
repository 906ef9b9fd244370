-- `bench_printout::put_answer` meets its contract: from what its calls promise.
use Rattle.bench_printout.specs.Printed.{answer_text}
use Rattle.bench_printout.proofs.put_answer.Goals as goal

pub returns-in-Running : goal.returns-in-Running
unfolding answer_text
returns-in-Running c =
    rw c.in-Running.is c.put_map.ensures

pub returns-in-Stopped : goal.returns-in-Stopped
unfolding answer_text
returns-in-Stopped c =
    rw c.in-Stopped.is c.put_map-in-Stopped.ensures

pub returns-in-Finished : goal.returns-in-Finished
unfolding answer_text
returns-in-Finished c =
    rw c.in-Finished.is c.put_map-in-Finished.ensures

pub returns-in-Full : goal.returns-in-Full
unfolding answer_text
returns-in-Full c =
    rw c.in-Full.is (rw (c.number.ensures, c.in-Full.is) at c.put_refusal.ensures)

pub returns-in-Wild : goal.returns-in-Wild
unfolding answer_text
returns-in-Wild c =
    rw c.in-Wild.is (rw (c.number-in-Wild.ensures, c.in-Wild.is) at c.put_refusal-in-Wild.ensures)

pub returns-in-Bad : goal.returns-in-Bad
unfolding answer_text
returns-in-Bad c =
    rw c.in-Bad.is (rw (c.number-in-Bad.ensures, c.in-Bad.is) at c.put_refusal-in-Bad.ensures)
