-- `blind::faults::size_fault` meets its contract: from what its calls promise.
use Rattle.blind.specs.Faults.{size_fault}
use mathlib.Core.Path.{sym, ◌∙◌}
use borrow.Author.Tests.{eq-eqb, ne_eqb, lt-ltb, le-ltb}
use Rattle.blind.proofs.faults.size_fault.Goals as goal
use Rattle.blind.proofs.faults.size_fault.Goals.{then-s-eq0-via-then-s-eq0, then-s-eq0-via-else-s-eq0+then-s-gt-MOST_FRAMES}
use Rattle.blind.proofs.faults.size_fault.Goals.{then-s-eq0-via-else-s-eq0+else-s-gt-MOST_FRAMES+then-s-eq0-2, then-s-eq0-via-else-s-eq0+else-s-gt-MOST_FRAMES+else-s-eq0-2+then-s-gt-MOST_FEATURES}

pub returns-then-not-is_positive : goal.returns-then-not-is_positive
unfolding size_fault
returns-then-not-is_positive c =
    simp (sym c.is_positive.ensures ∙ c.if-not-is_positive.true)

pub returns-then-s-eq0 : goal.returns-then-s-eq0
unfolding size_fault
returns-then-s-eq0 c = elim c.then-s-eq0.branch [
  | then-s-eq0-via-then-s-eq0 w ↦ simp ((sym c.is_positive.ensures ∙ c.if-not-is_positive.false), eq-eqb _ _ w.if-s-eq0.true)
  | then-s-eq0-via-else-s-eq0+then-s-gt-MOST_FRAMES w ↦ simp ((sym c.is_positive.ensures ∙ c.if-not-is_positive.false), ne_eqb _ _ w.if-s-eq0.false, lt-ltb _ _ w.if-s-gt-MOST_FRAMES.true)
  | then-s-eq0-via-else-s-eq0+else-s-gt-MOST_FRAMES+then-s-eq0-2 w ↦ simp (
    (sym c.is_positive.ensures ∙ c.if-not-is_positive.false),
    ne_eqb _ _ w.if-s-eq0.false,
    le-ltb _ _ w.if-s-gt-MOST_FRAMES.false,
    eq-eqb _ _ w.if-s-eq0-2.true,
  )
  | then-s-eq0-via-else-s-eq0+else-s-gt-MOST_FRAMES+else-s-eq0-2+then-s-gt-MOST_FEATURES w ↦ simp (
    (sym c.is_positive.ensures ∙ c.if-not-is_positive.false),
    ne_eqb _ _ w.if-s-eq0.false,
    le-ltb _ _ w.if-s-gt-MOST_FRAMES.false,
    ne_eqb _ _ w.if-s-eq0-2.false,
    lt-ltb _ _ w.if-s-gt-MOST_FEATURES.true,
  )
]

pub returns : goal.returns
unfolding size_fault
returns c =
    simp (
      (sym c.is_positive.ensures ∙ c.if-not-is_positive.false),
      ne_eqb _ _ c.if-s-eq0.false,
      le-ltb _ _ c.if-s-gt-MOST_FRAMES.false,
      ne_eqb _ _ c.if-s-eq0-2.false,
      le-ltb _ _ c.if-s-gt-MOST_FEATURES.false,
    )
