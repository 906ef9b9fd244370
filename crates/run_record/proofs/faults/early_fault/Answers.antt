-- `run_record::faults::early_fault` meets its contract: from what its calls promise.
use mathlib.Core.Path.{sym, ◌∙◌}
use borrow.Author.Tests.{eq-eqb, ne_eqb, lt-ltb, le-ltb}
use Rattle.std.proofs.lemmas.Result.{err_from_is_err_and}
use Rattle.refusal.proofs.Numbers.{refusal-some}
use Rattle.run_record.specs.Record.{early_fault}
use Rattle.run_record.proofs.faults.early_fault.Goals as goal
use Rattle.run_record.proofs.faults.early_fault.Goals.{then-s-eq0-via-then-s-eq0, then-s-eq0-via-else-s-eq0+then-s-gt-MOST_COMPONENTS}
use Rattle.run_record.proofs.faults.early_fault.Goals.{then-s-eq0-2-via-then-s-eq0-2, then-s-eq0-2-via-else-s-eq0-2+then-s-gt-MOST_ITERATIONS}
use Rattle.run_record.proofs.faults.early_fault.Goals.{then-s-eq0-3-via-then-s-eq0-3, then-s-eq0-3-via-else-s-eq0-3+then-s-gt-MOST_FRAMES}
use Rattle.run_record.proofs.faults.early_fault.Goals.{
  then-s-eq0-3-via-else-s-eq0-3+else-s-gt-MOST_FRAMES+then-s-eq0-4,
  then-s-eq0-3-via-else-s-eq0-3+else-s-gt-MOST_FRAMES+else-s-eq0-4+then-s-gt-MOST_FEATURES,
}

pub returns-then-s-eq0 : goal.returns-then-s-eq0
unfolding early_fault
returns-then-s-eq0 c = elim c.then-s-eq0.branch [
  | then-s-eq0-via-then-s-eq0 w ↦ simp (eq-eqb _ _ w.if-s-eq0.true)
  | then-s-eq0-via-else-s-eq0+then-s-gt-MOST_COMPONENTS w ↦ simp (ne_eqb _ _ w.if-s-eq0.false, lt-ltb _ _ w.if-s-gt-MOST_COMPONENTS.true)
]

pub returns-then-not-is_positive : goal.returns-then-not-is_positive
unfolding early_fault
returns-then-not-is_positive c =
    simp (ne_eqb _ _ c.if-s-eq0.false, le-ltb _ _ c.if-s-gt-MOST_COMPONENTS.false, sym c.is_positive.ensures ∙ c.if-not-is_positive.true)

pub returns-then-not-is_positive-2 : goal.returns-then-not-is_positive-2
unfolding early_fault
returns-then-not-is_positive-2 c =
    simp (
      ne_eqb _ _ c.if-s-eq0.false,
      le-ltb _ _ c.if-s-gt-MOST_COMPONENTS.false,
      sym c.is_positive.ensures ∙ c.if-not-is_positive.false,
      sym c.is_positive-2.ensures ∙ c.if-not-is_positive-2.true,
    )

pub returns-then-s-eq0-2 : goal.returns-then-s-eq0-2
unfolding early_fault
returns-then-s-eq0-2 c = elim c.then-s-eq0-2.branch [
  | then-s-eq0-2-via-then-s-eq0-2 w ↦ simp (
    ne_eqb _ _ c.if-s-eq0.false,
    le-ltb _ _ c.if-s-gt-MOST_COMPONENTS.false,
    sym c.is_positive.ensures ∙ c.if-not-is_positive.false,
    sym c.is_positive-2.ensures ∙ c.if-not-is_positive-2.false,
    eq-eqb _ _ w.if-s-eq0-2.true,
  )
  | then-s-eq0-2-via-else-s-eq0-2+then-s-gt-MOST_ITERATIONS w ↦ simp (
    ne_eqb _ _ c.if-s-eq0.false,
    le-ltb _ _ c.if-s-gt-MOST_COMPONENTS.false,
    sym c.is_positive.ensures ∙ c.if-not-is_positive.false,
    sym c.is_positive-2.ensures ∙ c.if-not-is_positive-2.false,
    ne_eqb _ _ w.if-s-eq0-2.false,
    lt-ltb _ _ w.if-s-gt-MOST_ITERATIONS.true,
  )
]

pub returns-in_err-tree_fault : goal.returns-in_err-tree_fault
unfolding early_fault
returns-in_err-tree_fault c =
    let p = err_from_is_err_and c.from_residual.result c.from_residual.ensures.1 in
    rw (p.1, p.2) (simp (
      ne_eqb _ _ c.if-s-eq0.false,
      le-ltb _ _ c.if-s-gt-MOST_COMPONENTS.false,
      sym c.is_positive.ensures ∙ c.if-not-is_positive.false,
      sym c.is_positive-2.ensures ∙ c.if-not-is_positive-2.false,
      ne_eqb _ _ c.if-s-eq0-2.false,
      le-ltb _ _ c.if-s-gt-MOST_ITERATIONS.false,
      sym c.in_err-tree_fault.ensures,
      ne_eqb _ 0 (refusal-some c.in_err-tree_fault.field-0.0),
    ))

pub returns-then-s-eq0-3 : goal.returns-then-s-eq0-3
unfolding early_fault
returns-then-s-eq0-3 c = elim c.then-s-eq0-3.branch [
  | then-s-eq0-3-via-then-s-eq0-3 w ↦ simp (
    ne_eqb _ _ c.if-s-eq0.false,
    le-ltb _ _ c.if-s-gt-MOST_COMPONENTS.false,
    sym c.is_positive.ensures ∙ c.if-not-is_positive.false,
    sym c.is_positive-2.ensures ∙ c.if-not-is_positive-2.false,
    ne_eqb _ _ c.if-s-eq0-2.false,
    le-ltb _ _ c.if-s-gt-MOST_ITERATIONS.false,
    eq-eqb _ 0 (sym c.in_ok-tree_fault.ensures),
    eq-eqb _ _ w.if-s-eq0-3.true,
  )
  | then-s-eq0-3-via-else-s-eq0-3+then-s-gt-MOST_FRAMES w ↦ simp (
    ne_eqb _ _ c.if-s-eq0.false,
    le-ltb _ _ c.if-s-gt-MOST_COMPONENTS.false,
    sym c.is_positive.ensures ∙ c.if-not-is_positive.false,
    sym c.is_positive-2.ensures ∙ c.if-not-is_positive-2.false,
    ne_eqb _ _ c.if-s-eq0-2.false,
    le-ltb _ _ c.if-s-gt-MOST_ITERATIONS.false,
    eq-eqb _ 0 (sym c.in_ok-tree_fault.ensures),
    ne_eqb _ _ w.if-s-eq0-3.false,
    lt-ltb _ _ w.if-s-gt-MOST_FRAMES.true,
  )
  | then-s-eq0-3-via-else-s-eq0-3+else-s-gt-MOST_FRAMES+then-s-eq0-4 w ↦ simp (
    ne_eqb _ _ c.if-s-eq0.false,
    le-ltb _ _ c.if-s-gt-MOST_COMPONENTS.false,
    sym c.is_positive.ensures ∙ c.if-not-is_positive.false,
    sym c.is_positive-2.ensures ∙ c.if-not-is_positive-2.false,
    ne_eqb _ _ c.if-s-eq0-2.false,
    le-ltb _ _ c.if-s-gt-MOST_ITERATIONS.false,
    eq-eqb _ 0 (sym c.in_ok-tree_fault.ensures),
    ne_eqb _ _ w.if-s-eq0-3.false,
    le-ltb _ _ w.if-s-gt-MOST_FRAMES.false,
    eq-eqb _ _ w.if-s-eq0-4.true,
  )
  | then-s-eq0-3-via-else-s-eq0-3+else-s-gt-MOST_FRAMES+else-s-eq0-4+then-s-gt-MOST_FEATURES w ↦ simp (
    ne_eqb _ _ c.if-s-eq0.false,
    le-ltb _ _ c.if-s-gt-MOST_COMPONENTS.false,
    sym c.is_positive.ensures ∙ c.if-not-is_positive.false,
    sym c.is_positive-2.ensures ∙ c.if-not-is_positive-2.false,
    ne_eqb _ _ c.if-s-eq0-2.false,
    le-ltb _ _ c.if-s-gt-MOST_ITERATIONS.false,
    eq-eqb _ 0 (sym c.in_ok-tree_fault.ensures),
    ne_eqb _ _ w.if-s-eq0-3.false,
    le-ltb _ _ w.if-s-gt-MOST_FRAMES.false,
    ne_eqb _ _ w.if-s-eq0-4.false,
    lt-ltb _ _ w.if-s-gt-MOST_FEATURES.true,
  )
]

pub returns : goal.returns
unfolding early_fault
returns c = simp (
  ne_eqb _ _ c.if-s-eq0.false,
  le-ltb _ _ c.if-s-gt-MOST_COMPONENTS.false,
  sym c.is_positive.ensures ∙ c.if-not-is_positive.false,
  sym c.is_positive-2.ensures ∙ c.if-not-is_positive-2.false,
  ne_eqb _ _ c.if-s-eq0-2.false,
  le-ltb _ _ c.if-s-gt-MOST_ITERATIONS.false,
  eq-eqb _ 0 (sym c.in_ok-tree_fault.ensures),
  ne_eqb _ _ c.if-s-eq0-3.false,
  le-ltb _ _ c.if-s-gt-MOST_FRAMES.false,
  ne_eqb _ _ c.if-s-eq0-4.false,
  le-ltb _ _ c.if-s-gt-MOST_FEATURES.false,
)
