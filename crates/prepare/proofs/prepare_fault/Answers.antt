-- `prepare::prepare_fault` meets its contract: by `early-most`, `early-late`.
use Rattle.std.proofs.lemmas.Result.{err_from_is_err_and}
use Rattle.refusal.proofs.Numbers.{refusal-some}
use Rattle.prepare.proofs.Laws.{early-most, early-late}
use Rattle.prepare.specs.Prepare.{prepare_fault}
use borrow.Author.Tests.{eq-eqb, ne_eqb}
use mathlib.Core.Path.{sym, ◌∙◌}
use native.Mathlib.Omega.{arith}
use Rattle.prepare.proofs.prepare_fault.Goals as goal

pub returns-in_err-early_fault : goal.returns-in_err-early_fault
unfolding prepare_fault
returns-in_err-early_fault c =
    let p = err_from_is_err_and c.from_residual.result c.from_residual.ensures.1 in
    rw (p.1, p.2, sym c.in_err-early_fault.ensures, ne_eqb _ 0 (refusal-some c.in_err-early_fault.field-0.0))

pub times-nf-requires : goal.times-nf-requires
times-nf-requires c =
    let z = early-most _ (sym c.in_ok-early_fault.ensures) in
    (omega arith, omega arith)

pub returns-then-table-nf : goal.returns-then-table-nf
unfolding prepare_fault
returns-then-table-nf c =
    rw ((sym c.in_ok-early_fault.ensures), ne_eqb _ _ (rw c.times-nf.ensures at c.if-table-nf.true))

pub returns-then-not-all_in : goal.returns-then-not-all_in
unfolding prepare_fault
returns-then-not-all_in c =
    rw (
      (sym c.in_ok-early_fault.ensures),
      (eq-eqb _ _ (rw c.times-nf.ensures at c.if-table-nf.false)),
      sym
          (rw c.times-nf.ensures at c.all_in.ensures) ∙ c.if-not-all_in.true,
    )

pub late_fault-requires : goal.late_fault-requires
late_fault-requires c =
    (early-most _ (sym c.in_ok-early_fault.ensures)).0

pub returns-in_err-late_fault : goal.returns-in_err-late_fault
unfolding prepare_fault
returns-in_err-late_fault c =
    let p = err_from_is_err_and c.from_residual-in_err-late_fault.result c.from_residual-in_err-late_fault.ensures.1 in
    rw (
      p.1,
      p.2,
      sym c.in_ok-early_fault.ensures,
      (eq-eqb _ _ (rw c.times-nf.ensures at c.if-table-nf.false)),
      (sym (rw c.times-nf.ensures at c.all_in.ensures) ∙ c.if-not-all_in.false),
      sym c.in_err-late_fault.ensures,
      ne_eqb _ 0 (refusal-some c.in_err-late_fault.field-0.0),
    )

pub times-nc-requires : goal.times-nc-requires
times-nc-requires c =
    let z = early-most _ (sym c.in_ok-early_fault.ensures) in
    (omega arith, omega arith)

pub returns-then-start-nc : goal.returns-then-start-nc
unfolding prepare_fault
returns-then-start-nc c =
    rw (
      (sym c.in_ok-early_fault.ensures),
      (eq-eqb _ _ (rw c.times-nf.ensures at c.if-table-nf.false)),
      (sym (rw c.times-nf.ensures at c.all_in.ensures) ∙ c.if-not-all_in.false),
      (sym c.in_ok-late_fault.ensures),
      ne_eqb _ _
          (rw c.times-nc.ensures at c.if-start-nc.true),
    )

pub returns-then-not-all_in-2 : goal.returns-then-not-all_in-2
unfolding prepare_fault
returns-then-not-all_in-2 c =
    rw (
      (sym c.in_ok-early_fault.ensures),
      (eq-eqb _ _ (rw c.times-nf.ensures at c.if-table-nf.false)),
      (sym (rw c.times-nf.ensures at c.all_in.ensures) ∙ c.if-not-all_in.false),
      (sym c.in_ok-late_fault.ensures),
      (eq-eqb _ _ (rw c.times-nc.ensures at c.if-start-nc.false)),
      sym (rw c.times-nc.ensures at c.all_in-2.ensures) ∙ c.if-not-all_in-2.true,
    )

pub lengths_fit-requires : goal.lengths_fit-requires
lengths_fit-requires c =
    early-late _ (sym c.in_ok-early_fault.ensures) (sym c.in_ok-late_fault.ensures)

pub returns-then-lengths_fit : goal.returns-then-lengths_fit
unfolding prepare_fault
returns-then-lengths_fit c =
    rw (
      (sym c.in_ok-early_fault.ensures),
      (eq-eqb _ _ (rw c.times-nf.ensures at c.if-table-nf.false)),
      (sym (rw c.times-nf.ensures at c.all_in.ensures) ∙ c.if-not-all_in.false),
      (sym c.in_ok-late_fault.ensures),
      (eq-eqb _ _ (rw c.times-nc.ensures at c.if-start-nc.false)),
      (sym (rw c.times-nc.ensures at c.all_in-2.ensures) ∙ c.if-not-all_in-2.false),
      sym
          c.lengths_fit.ensures ∙ c.if-lengths_fit.true,
    )

pub returns : goal.returns
unfolding prepare_fault
returns c =
    rw (
      (sym c.in_ok-early_fault.ensures),
      (eq-eqb _ _ (rw c.times-nf.ensures at c.if-table-nf.false)),
      (sym (rw c.times-nf.ensures at c.all_in.ensures) ∙ c.if-not-all_in.false),
      (sym c.in_ok-late_fault.ensures),
      (eq-eqb _ _ (rw c.times-nc.ensures at c.if-start-nc.false)),
      (sym (rw c.times-nc.ensures at c.all_in-2.ensures) ∙ c.if-not-all_in-2.false),
      sym
          c.lengths_fit.ensures ∙ c.if-lengths_fit.false,
    )
