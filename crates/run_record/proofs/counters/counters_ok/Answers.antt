-- `run_record::counters::counters_ok` meets its contract: by `done-most`, `per-most`.
use Rattle.run_record.proofs.Laws.{done-most, per-most}
use native.Mathlib.Nat.{le_trans}
use Rattle.run_record.specs.Record.{counters_ok}
use mathlib.Core.Path.{sym, ◌∙◌}
use borrow.Author.Tests.{lt-ltb, le-ltb}
use Rattle.run_record.proofs.counters.counters_ok.Goals as goal

pub returns-then-not-state_fits : goal.returns-then-not-state_fits
unfolding counters_ok
returns-then-not-state_fits c =
    simp (sym c.state_fits.ensures ∙ c.if-not-state_fits.true)

pub returns-then-p-r : goal.returns-then-p-r
unfolding counters_ok
returns-then-p-r c =
    let the-per = c.per-p in
    let the-if1 = c.if-not-state_fits in
    let the-state-fits = c.state_fits in
    simp (sym the-state-fits.ensures ∙ the-if1.false, le-ltb _ _ (rw the-per.ensures at c.if-p-r.true))

pub total_fits-requires : goal.total_fits-requires
total_fits-requires c =
    let the-per = c.per-p in
    let the-if1 = c.if-not-state_fits in
    let the-state-fits = c.state_fits in (
      le_trans (done-most _ _ _ _ _ (sym the-state-fits.ensures ∙ the-if1.false)) c.requires.iterations-most,
      rw the-per.ensures
          (per-most _ _ c.requires.n-most),
      c.if-p-r.false,
    )

pub returns : goal.returns
unfolding counters_ok
returns c =
    let the-per = c.per-p in
    let the-if1 = c.if-not-state_fits in
    let the-state-fits = c.state_fits in
    simp (sym the-state-fits.ensures ∙ the-if1.false, lt-ltb _ _ (rw the-per.ensures at c.if-p-r.false))
    (c.total_fits.ensures ∙ rw the-per.ensures)
