-- `sigma::row_for` meets its contract: weights, their sum, shares; the sum is answered. Assumes nothing.
use Rattle.affinity_sigma.specs.Sigma.{row_of}
use Rattle.affinity_sigma.proofs.row_for.Goals as goal

pub returns : goal.returns
unfolding row_of
returns c =
    record { shares_after = rw (c.total-sum.ensures, c.weigh.ensures) at c.share_out.ensures; value = rw c.weigh.ensures at c.total-sum.ensures }
