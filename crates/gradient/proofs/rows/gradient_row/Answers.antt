-- `gradient::rows::gradient_row` meets its contract: from what its calls promise.
use Rattle.gradient.specs.Exact.{gradient_row}
use Rattle.gradient.proofs.rows.gradient_row.Goals as goal

pub returns : goal.returns
unfolding gradient_row
returns c =
    rw c.gather.ensures at c.slopes.ensures
