-- `run_budget::go_on` meets its contract: the loop keeps `Leads`.
use Rattle.run_entry.specs.State.{memory, state}
use Rattle.run_budget.proofs.Lends.{Leads, calls_left}
use Rattle.run_budget.proofs.go_on.Given as goal

abbrev pub invariant-loop-x : goal.invariant-loop-x
invariant-loop-x l =
    Leads l.budget (state l.fn.r (memory l.fn.positions l.fn.increments l.fn.gains l.affinities l.indices l.offsets l.fn.forces l.fn.cells)) l.g
    (memory l.positions l.increments l.gains l.affinities l.indices l.offsets l.forces l.cells)

abbrev pub decreases-loop-x : goal.decreases-loop-x
decreases-loop-x l = calls_left l.budget l.g
