-- `blind::faults::blind_fault` meets its contract: by `sizes-pass`.
use Rattle.std.proofs.lemmas.Result.{err_from_is_err_and}
use Rattle.refusal.proofs.Numbers.{refusal-some}
use Rattle.blind.proofs.Tests.{sizes-pass}
use Rattle.blind.specs.Faults.{blind_fault}
use mathlib.Core.Path.{sym, ◌∙◌}
use borrow.Author.Tests.{eq-eqb, ne_eqb}
use native.Mathlib.Omega.{arith}
use Rattle.blind.proofs.faults.blind_fault.Goals as goal

pub returns-in_err-size_fault : goal.returns-in_err-size_fault
unfolding blind_fault
returns-in_err-size_fault c =
    let p = err_from_is_err_and c.from_residual.result c.from_residual.ensures.1 in
    rw (p.1, p.2, sym c.in_err-size_fault.ensures, ne_eqb _ 0 (refusal-some c.in_err-size_fault.field-0.0))

pub times-nf-requires : goal.times-nf-requires
times-nf-requires c =
    let z = sizes-pass _ (sym c.in_ok-size_fault.ensures) in
    (omega (arith, z.n-in), omega (arith, z.f-in))

pub returns-then-table-nf : goal.returns-then-table-nf
unfolding blind_fault
returns-then-table-nf c =
    rw ((sym c.in_ok-size_fault.ensures), ne_eqb _ _ (rw c.times-nf.ensures at c.if-table-nf.true))

pub returns-then-not-table_fine : goal.returns-then-not-table_fine
unfolding blind_fault
returns-then-not-table_fine c =
    rw (
      (sym c.in_ok-size_fault.ensures),
      (eq-eqb _ _ (rw c.times-nf.ensures at c.if-table-nf.false)),
      sym
          (rw c.times-nf.ensures at c.table_fine.ensures) ∙ c.if-not-table_fine.true,
    )

pub late_fault-requires : goal.late_fault-requires
late_fault-requires c =
    (sizes-pass _ (sym c.in_ok-size_fault.ensures)).n-in.1

pub returns-in_err-late_fault : goal.returns-in_err-late_fault
unfolding blind_fault
returns-in_err-late_fault c =
    let p = err_from_is_err_and c.from_residual-in_err-late_fault.result c.from_residual-in_err-late_fault.ensures.1 in
    rw (
      p.1,
      p.2,
      (sym c.in_ok-size_fault.ensures),
      (eq-eqb _ _ (rw c.times-nf.ensures at c.if-table-nf.false)),
      (sym (rw c.times-nf.ensures at c.table_fine.ensures) ∙ c.if-not-table_fine.false),
      sym c.in_err-late_fault.ensures,
      ne_eqb _ 0 (refusal-some c.in_err-late_fault.field-0.0),
    )

pub returns-then-rows_fit : goal.returns-then-rows_fit
unfolding blind_fault
returns-then-rows_fit c =
    rw (
      (sym c.in_ok-size_fault.ensures),
      (eq-eqb _ _ (rw c.times-nf.ensures at c.if-table-nf.false)),
      (sym (rw c.times-nf.ensures at c.table_fine.ensures) ∙ c.if-not-table_fine.false),
      (sym c.in_ok-late_fault.ensures),
      sym
          c.rows_fit.ensures ∙ c.if-rows_fit.true,
    )

pub returns : goal.returns
unfolding blind_fault
returns c =
    rw (
      (sym c.in_ok-size_fault.ensures),
      (eq-eqb _ _ (rw c.times-nf.ensures at c.if-table-nf.false)),
      (sym (rw c.times-nf.ensures at c.table_fine.ensures) ∙ c.if-not-table_fine.false),
      (sym c.in_ok-late_fault.ensures),
      sym
          c.rows_fit.ensures ∙ c.if-rows_fit.false,
    )
