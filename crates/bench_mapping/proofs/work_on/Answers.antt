-- `bench_mapping::work_on` meets its contract: what `work` leaves, and of it the answer and the positions.
use mathlib.Core.Path.{ap}
use Rattle.run_budget.specs.Budget.{Worked}
use Rattle.bench_mapping.proofs.work_on.Goals as goal

pub returns : goal.returns
returns c = (ap (λ (w : Worked). w.answer) c.work-a.ensures, ap (λ (w : Worked). w.left.memory.positions) c.work-a.ensures)
