-- `sigma::next` meets its contract: the three ways to the next sigma. Assumes nothing.
use Rattle.affinity_sigma.proofs.Rounds.{unbounded}
use Rattle.affinity_sigma.specs.Sigma.{narrowed}
use Rattle.affinity_sigma.proofs.next.Goals as goal

pub returns-then-diff : goal.returns-then-diff
unfolding narrowed
returns-then-diff c =
    rw c.if-diff.true

pub returns-then-b : goal.returns-then-b
unfolding narrowed
returns-then-b c =
    rw (c.if-diff.false, rw unbounded at c.if-b.true)

pub returns : goal.returns
unfolding narrowed
returns c =
    rw (c.if-diff.false, rw unbounded at c.if-b.false)
