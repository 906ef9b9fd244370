-- The values into their places: the turns of the loop up to c, written one after the other. By the test that each return has passed.
use Rattle.laws.specs.Loops.{loop}
use Rattle.tree_node.proofs.Axes.{third}
use native.Mathlib.Nat.{add-zero}
use lib.ListN.{length-set}
use native.Mathlib.Omega.{arith}
use Rattle.gradient.proofs.pulls.put.Goals as goal

pub returns-then-c-eq1 : goal.returns-then-c-eq1
unfolding loop
returns-then-c-eq1 c =
    rw (c.if-c-eq1.true, add-zero)

pub bounds-forces-a-2 : goal.bounds-forces-a-2
bounds-forces-a-2 c =
    simp length-set (omega arith)

pub returns-then-c-eq2 : goal.returns-then-c-eq2
unfolding loop
returns-then-c-eq2 c =
    rw (c.if-c-eq2.true, add-zero)

pub bounds-forces-a-3 : goal.bounds-forces-a-3
bounds-forces-a-3 c =
    simp length-set (omega arith)

pub returns : goal.returns
unfolding loop
returns c =
    rw (third _ c.requires.0 c.if-c-eq1.false c.if-c-eq2.false, add-zero)
