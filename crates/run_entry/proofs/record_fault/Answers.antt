-- `run_entry::record_fault` meets its contract: by `settings-fine`.
use mathlib.Core.Path.{sym, ◌∙◌}
use borrow.Author.Tests.{eq-eqb, ne_eqb}
use Rattle.std.proofs.lemmas.Result.{err_from_is_err_and}
use Rattle.refusal.proofs.Numbers.{refusal-some, refusal-by-number}
use Rattle.run_record.proofs.Laws.{settings-fine}
use Rattle.run_entry.specs.Entry.{record_fault}
use Rattle.run_entry.proofs.record_fault.Goals as goal

pub returns-in_err-settings_fault : goal.returns-in_err-settings_fault
unfolding record_fault
returns-in_err-settings_fault c =
    let p = err_from_is_err_and c.from_residual.result c.from_residual.ensures.1 in
    let d = c.in_err-settings_fault.field-0.0 in
    rw (p.1, p.2, sym c.in_err-settings_fault.ensures, ne_eqb _ 0 (refusal-some d), refusal-by-number d)

pub counters_ok-requires : goal.counters_ok-requires
counters_ok-requires c = settings-fine c.args.r.settings (sym c.in_ok-settings_fault.ensures)

pub returns-then-not-counters_ok : goal.returns-then-not-counters_ok
unfolding record_fault
returns-then-not-counters_ok c =
    rw (eq-eqb _ 0 (sym c.in_ok-settings_fault.ensures), sym c.counters_ok.ensures ∙ c.if-not-counters_ok.true)

pub returns : goal.returns
unfolding record_fault
returns c =
    rw (eq-eqb _ 0 (sym c.in_ok-settings_fault.ensures), sym c.counters_ok.ensures ∙ c.if-not-counters_ok.false)
