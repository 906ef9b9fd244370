-- `gradient::rows::total_row` meets its contract: from what its calls promise.
use borrow.Author.Tests.{eq-eqb, ne_eqb}
use Rattle.gradient.specs.Exact.{total_row}
use Rattle.gradient.proofs.rows.total_row.Goals as goal
use Rattle.gradient.proofs.rows.total_row.Goals.{then-i-eq0, else-i-eq0}

pub returns : goal.returns
unfolding total_row
returns c =
    elim c.if-i-eq0.branch [
      | then-i-eq0 w ↦ rw (c.add_row.ensures, w.sum-is, eq-eqb _ _ w.if-i-eq0.true)
      | else-i-eq0 w ↦ rw (c.add_row.ensures, w.sum-is, ne_eqb _ _ w.if-i-eq0.false)
    ]
