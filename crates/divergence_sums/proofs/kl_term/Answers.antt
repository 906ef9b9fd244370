-- `divergence_sums::kl_term` meets its contract: from what its calls promise.
use Rattle.divergence_sums.specs.Sums.{kl_term}
use Rattle.divergence_sums.proofs.kl_term.Goals as goal

pub returns-then-p : goal.returns-then-p
unfolding kl_term
returns-then-p c =
    rw (c.if-p.true, c.ln.ensures, c.unless_above-floored.ensures)

pub returns : goal.returns
unfolding kl_term
returns c =
    rw c.if-p.false
