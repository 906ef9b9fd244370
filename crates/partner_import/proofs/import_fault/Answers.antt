-- `partner_import::import_fault` meets its contract: by `settings-fine`.
use mathlib.Core.Path.{sym, ◌∙◌}
use borrow.Author.Tests.{eq-eqb, ne_eqb}
use Rattle.std.proofs.lemmas.Result.{err_from_is_err_and}
use Rattle.refusal.proofs.Numbers.{refusal-some}
use Rattle.run_record.proofs.Laws.{settings-fine}
use Rattle.partner_import.specs.Import.{import_fault}
use native.Mathlib.Omega.{arith}
use Rattle.partner_import.proofs.import_fault.Goals as goal
use Rattle.partner_import.proofs.import_fault.Goals.{then-start-m-via-then-start-m, then-start-m-via-else-start-m+then-not-start_fine}

pub returns-in_err-settings_fault : goal.returns-in_err-settings_fault
unfolding import_fault
returns-in_err-settings_fault c =
    let p = err_from_is_err_and c.from_residual.result c.from_residual.ensures.1 in
    rw (p.1, p.2, sym c.in_err-settings_fault.ensures, ne_eqb _ 0 (refusal-some c.in_err-settings_fault.field-0.0))

pub times-m-requires : goal.times-m-requires
times-m-requires c =
    let z = settings-fine _ (sym c.in_ok-settings_fault.ensures) in (omega (arith, z.n-most), omega (arith, z.c-most))

pub start_fine-requires : goal.start_fine-requires
start_fine-requires c =
    omega (arith, c.if-start-m.false)

pub returns-then-start-m : goal.returns-then-start-m
unfolding import_fault
returns-then-start-m c = elim c.then-start-m.branch [
  | then-start-m-via-then-start-m w ↦ rw (sym c.in_ok-settings_fault.ensures, ne_eqb _ _ (rw c.times-m.ensures at w.if-start-m.true))
  | then-start-m-via-else-start-m+then-not-start_fine w ↦ rw (
    sym c.in_ok-settings_fault.ensures,
    eq-eqb _ _ (rw c.times-m.ensures at w.if-start-m.false),
    sym (rw c.times-m.ensures at w.start_fine.ensures) ∙ w.if-not-start_fine.true,
  )
]

pub areas_fit-requires : goal.areas_fit-requires
areas_fit-requires c =
    settings-fine _ (sym c.in_ok-settings_fault.ensures)

pub returns-then-not-areas_fit : goal.returns-then-not-areas_fit
unfolding import_fault
returns-then-not-areas_fit c =
    rw (
      sym c.in_ok-settings_fault.ensures,
      eq-eqb _ _ (rw c.times-m.ensures at c.if-start-m.false),
      sym (rw c.times-m.ensures at c.start_fine.ensures) ∙ c.if-not-start_fine.false,
      sym c.areas_fit.ensures ∙ c.if-not-areas_fit.true,
    )

pub returns : goal.returns
unfolding import_fault
returns c =
    rw (
      sym c.in_ok-settings_fault.ensures,
      eq-eqb _ _ (rw c.times-m.ensures at c.if-start-m.false),
      sym (rw c.times-m.ensures at c.start_fine.ensures) ∙ c.if-not-start_fine.false,
      sym c.areas_fit.ensures ∙ c.if-not-areas_fit.false,
    )
