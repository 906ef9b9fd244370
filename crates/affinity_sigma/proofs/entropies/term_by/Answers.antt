-- `sigma::entropies::term_by` meets its contract: a share that enters, and one that does not. Assumes nothing.
use Rattle.affinity_sigma.proofs.entropies.term_by.Goals as goal

pub returns-then-s : goal.returns-then-s
returns-then-s c =
    rw c.if-s.true

pub returns : goal.returns
returns c =
    rw c.if-s.false
