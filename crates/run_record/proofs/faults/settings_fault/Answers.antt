-- `run_record::faults::settings_fault` meets its contract: by `early-n`.
use mathlib.Core.Path.{sym}
use borrow.Author.Tests.{eq-eqb, ne_eqb}
use Rattle.std.proofs.lemmas.Result.{err_from_is_err_and}
use Rattle.refusal.proofs.Numbers.{refusal-some}
use Rattle.run_record.specs.Record.{settings_fault}
use Rattle.run_record.proofs.Laws.{early-n}
use Rattle.run_record.proofs.faults.settings_fault.Goals as goal

pub returns-in_err-early_fault : goal.returns-in_err-early_fault
unfolding settings_fault
returns-in_err-early_fault c =
    let p = err_from_is_err_and c.from_residual.result c.from_residual.ensures.1 in
    rw (p.1, p.2, sym c.in_err-early_fault.ensures, ne_eqb _ 0 (refusal-some c.in_err-early_fault.field-0.0))

pub late_fault-requires : goal.late_fault-requires
late_fault-requires c = (early-n c.args.s (sym c.in_ok-early_fault.ensures)).1

pub returns : goal.returns
unfolding settings_fault
returns c = rw c.late_fault.ensures (rw (eq-eqb _ 0 (sym c.in_ok-early_fault.ensures)))
