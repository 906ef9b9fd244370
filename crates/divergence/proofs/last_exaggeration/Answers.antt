-- `divergence::last_exaggeration` meets its contract: each need follows from its own premises.
use borrow.Author.Tests.{le-leb, lt-leb}
use Rattle.laws.specs.Domain.{early_iterations}
use Rattle.divergence.specs.Divergence.{last_exaggeration}
use native.Mathlib.Omega.{arith}
use Rattle.divergence.proofs.last_exaggeration.Goals as goal

pub returns-then-r-le-EARLY_ITERATIONS : goal.returns-then-r-le-EARLY_ITERATIONS
unfolding last_exaggeration
returns-then-r-le-EARLY_ITERATIONS c =
    rw (le-leb c.args.r.done early_iterations (omega (arith, c.if-r-le-EARLY_ITERATIONS.true)))

pub returns : goal.returns
unfolding last_exaggeration
returns c =
    rw (lt-leb c.args.r.done early_iterations (omega (arith, c.if-r-le-EARLY_ITERATIONS.false)))
