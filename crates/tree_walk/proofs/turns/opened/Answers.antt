-- `tree_walk::turns::opened` meets its contract: from what its calls promise.
use Rattle.tree_walk.specs.Turn.{opened_of, pushed_of}
use borrow.Author.Tests.{lt-ltb, le-ltb}
use lib.ListN.{length-set}
use native.Mathlib.Omega.{arith}
use Rattle.tree_walk.proofs.turns.opened.Goals as goal

pub bounds-stack-l-then-l-levels : goal.bounds-stack-l-then-l-levels
bounds-stack-l-then-l-levels c =
    simp length-set (omega (arith, c.requires, c.if-l-levels.true))

pub returns-then-l-levels : goal.returns-then-l-levels
unfolding opened_of pushed_of
returns-then-l-levels c = (
  rw (lt-ltb _ _ c.if-next-s.true, lt-ltb _ _ c.if-l-levels.true) c.standing.ensures,
  rw
      (lt-ltb _ _ c.if-next-s.true, lt-ltb _ _ c.if-l-levels.true),
)

pub returns-then-next-s : goal.returns-then-next-s
unfolding opened_of pushed_of
returns-then-next-s c =
    (rw (lt-ltb _ _ c.if-next-s.true, le-ltb _ _ c.if-l-levels.false), rw (lt-ltb _ _ c.if-next-s.true, le-ltb _ _ c.if-l-levels.false))

pub returns : goal.returns
unfolding opened_of pushed_of
returns c =
    (rw (le-ltb _ _ c.if-next-s.false) c.standing-2.ensures, rw (le-ltb _ _ c.if-next-s.false))
