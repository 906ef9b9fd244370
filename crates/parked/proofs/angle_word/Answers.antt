-- `parked::angle_word` meets its contract: each need follows from its own premises.
use Rattle.parked.proofs.angle_word.Goals as goal

pub returns-then-tree : goal.returns-then-tree
returns-then-tree c =
    rw c.if-tree.true

pub returns : goal.returns
returns c =
    rw c.if-tree.false
