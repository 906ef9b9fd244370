-- `run_record::progress::stops_now` meets its contract: from what its calls promise.
use Rattle.run_record.specs.Record.{stops_now}
use mathlib.Core.Path.{sym, ◌∙◌}
use borrow.Author.Tests.{le-leb, lt-leb}
use Rattle.run_record.proofs.progress.stops_now.Goals as goal

pub returns-then-r-lt-EARLY_ITERATIONS : goal.returns-then-r-lt-EARLY_ITERATIONS
unfolding stops_now
returns-then-r-lt-EARLY_ITERATIONS c =
    simp (lt-leb _ _ c.if-r-lt-EARLY_ITERATIONS.true)

pub returns-then-not-is_above : goal.returns-then-not-is_above
unfolding stops_now
returns-then-not-is_above c =
    let the-if1 = c.if-r-lt-EARLY_ITERATIONS in
    simp (le-leb _ _ the-if1.false, sym c.is_above.ensures ∙ c.if-not-is_above.true)

pub returns : goal.returns
unfolding stops_now
returns c =
    let the-is-above = c.is_above in
    let the-if1 = c.if-r-lt-EARLY_ITERATIONS in
    simp (le-leb _ _ the-if1.false, sym the-is-above.ensures ∙ c.if-not-is_above.false)
