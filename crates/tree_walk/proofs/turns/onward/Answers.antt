-- `tree_walk::turns::onward` meets its contract: from what its calls promise.
use Rattle.tree_walk.specs.Turn.{past_cell}
use borrow.Author.Tests.{eq-eqb, ne_eqb, lt-ltb, le-ltb}
use Rattle.tree_walk.proofs.turns.onward.Goals as goal

pub returns-then-next-s : goal.returns-then-next-s
unfolding past_cell
returns-then-next-s c =
    rw (lt-ltb _ _ c.if-next-s.true) c.standing.ensures

pub returns-then-s-eq0 : goal.returns-then-s-eq0
unfolding past_cell
returns-then-s-eq0 c =
    rw (le-ltb _ _ c.if-next-s.false, eq-eqb _ _ c.if-s-eq0.true) c.standing-then-s-eq0.ensures

pub returns : goal.returns
unfolding past_cell
returns c =
    rw (le-ltb _ _ c.if-next-s.false, ne_eqb _ _ c.if-s-eq0.false) c.standing-2.ensures
