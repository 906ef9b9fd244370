-- `run_record::counters::stopped_fits` meets its contract: from what its calls promise.
use Prim.Native.Nat.{suc}
use native.Mathlib.Omega.{arith}
use Rattle.laws.specs.Domain.{early_iterations}
use Rattle.run_record.specs.Record.{state_fits}
use mathlib.Core.Path.{sym, ◌∙◌}
use borrow.Author.Tests.{le-leb, lt-leb}
use Rattle.run_record.proofs.counters.stopped_fits.Goals as goal

pub returns-then-done-le-EARLY_ITERATIONS : goal.returns-then-done-le-EARLY_ITERATIONS
unfolding state_fits
returns-then-done-le-EARLY_ITERATIONS c =
    simp (lt-leb (suc early_iterations) c.args.done (omega (arith, c.if-done-le-EARLY_ITERATIONS.true)))

pub returns-then-set-done : goal.returns-then-set-done
unfolding state_fits
returns-then-set-done c =
    simp (le-leb _ _ c.if-done-le-EARLY_ITERATIONS.false, lt-leb _ _ c.if-set-done.true)

pub returns-then-not-is_above : goal.returns-then-not-is_above
unfolding state_fits
returns-then-not-is_above c =
    let the-if2 = c.if-set-done in
    let the-if1 = c.if-done-le-EARLY_ITERATIONS in
    simp (le-leb _ _ the-if1.false, le-leb _ _ the-if2.false, sym c.is_above.ensures ∙ c.if-not-is_above.true)

pub returns : goal.returns
unfolding state_fits
returns c =
    let the-if2 = c.if-set-done in
    let the-if1 = c.if-done-le-EARLY_ITERATIONS in
    simp (le-leb _ _ the-if1.false, le-leb _ _ the-if2.false, sym c.is_above.ensures ∙ c.if-not-is_above.false)
