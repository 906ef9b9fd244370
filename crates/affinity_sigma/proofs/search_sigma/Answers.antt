use mathlib.Core.Path.{refl}
use Rattle.affinity_sigma.proofs.Rounds.{unbounded, narrows-start, narrows-next, narrows-met, narrows-done}
use borrow.Author.Rules.{rules}
use Rattle.affinity_sigma.proofs.search_sigma.Goals as goal

pub loop-round-init : goal.loop-round-init
loop-round-init c =
    (refl, narrows-start _ _ _ _ _ (rw unbounded))

pub loop-round-preserved : goal.loop-round-preserved
loop-round-preserved c = (
  search rules,
  narrows-next c.loop-round.invariant.1 c.loop-round-test.true
      (record { row_is = c.row_for-sum.ensures.shares_after; sum_is = c.row_for-sum.ensures.value; off-by = c.excess_of-diff.ensures })
      (rw c.absolute.ensures at c.if-absolute.false) c.next-b.ensures,
)

pub returns-after-loop-round : goal.returns-after-loop-round
returns-after-loop-round c =
    let told = narrows-done c.loop-round.invariant.1 c.loop-round-test.false in
    record { shares_after = told.0; value = told.1 }

pub returns-then-absolute : goal.returns-then-absolute
returns-then-absolute c =
    let told = narrows-met c.loop-round.invariant.1 c.loop-round-test.true
    (record { row_is = c.row_for-sum.ensures.shares_after; sum_is = c.row_for-sum.ensures.value; off-by = c.excess_of-diff.ensures })
    (rw c.absolute.ensures at c.if-absolute.true) in
    record { shares_after = told.0; value = told.1 }
