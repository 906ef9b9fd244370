-- `sigma::entropies::held` meets its contract: a share that enters, and a half. Assumes nothing.
use Rattle.affinity_sigma.proofs.Shares.{half_high, half-low}
use Rattle.affinity_sigma.proofs.entropies.held.Goals as goal

pub returns-then-v : goal.returns-then-v
returns-then-v c =
    (rw c.if-v.true, c.if-v.true, c.requires)

pub returns : goal.returns
returns c =
    (rw c.if-v.false, half_high, half-low)
