-- `run_plan::exaggeration` meets its contract: each need follows from its own premises.
use borrow.Author.Tests.{lt-ltb, le-ltb}
use Rattle.run_plan.specs.Plan.{exaggeration_of}
use Rattle.run_plan.proofs.exaggeration.Goals as goal

pub returns-then-r-lt-EARLY_ITERATIONS : goal.returns-then-r-lt-EARLY_ITERATIONS
unfolding exaggeration_of
returns-then-r-lt-EARLY_ITERATIONS c =
    rw (lt-ltb _ _ c.if-r-lt-EARLY_ITERATIONS.true)

pub returns : goal.returns
unfolding exaggeration_of
returns c =
    rw (le-ltb _ _ c.if-r-lt-EARLY_ITERATIONS.false)
