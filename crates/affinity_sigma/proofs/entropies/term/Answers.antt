-- `sigma::entropies::term` meets its contract: a share that enters the entropy, and one that does not. Assumes nothing.
use Rattle.affinity_sigma.specs.Sigma.{term_of}
use Rattle.affinity_sigma.proofs.entropies.term.Goals as goal

pub returns-then-share : goal.returns-then-share
unfolding term_of
returns-then-share c =
    rw (c.ln.ensures, c.if-share.true)

pub returns : goal.returns
unfolding term_of
returns c =
    rw c.if-share.false
