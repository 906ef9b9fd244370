-- The sums by component: the turns of the loop up to c, written one after the other. By the test that each return has passed.
use Rattle.laws.specs.Loops.{loop}
use native.Mathlib.Nat.{add-zero, le_antisymm}
use native.Mathlib.Omega.{arith}
use Rattle.gradient_pairs.proofs.exact.add_along.Goals as goal

pub returns-then-c-eq0 : goal.returns-then-c-eq0
unfolding loop
returns-then-c-eq0 c =
    rw c.if-c-eq0.true

pub returns-then-c-le1 : goal.returns-then-c-le1
unfolding loop
returns-then-c-le1 c =
    rw (le_antisymm c.if-c-le1.true (omega arith), add-zero)

pub returns-then-c-le2 : goal.returns-then-c-le2
unfolding loop
returns-then-c-le2 c =
    rw (le_antisymm c.if-c-le2.true (omega arith), add-zero)

pub returns-then-c-le3 : goal.returns-then-c-le3
unfolding loop
returns-then-c-le3 c =
    rw (le_antisymm c.if-c-le3.true (omega arith), add-zero)

pub returns-then-c-le4 : goal.returns-then-c-le4
unfolding loop
returns-then-c-le4 c =
    rw (le_antisymm c.if-c-le4.true (omega arith), add-zero)

pub returns-then-c-le5 : goal.returns-then-c-le5
unfolding loop
returns-then-c-le5 c =
    rw (le_antisymm c.if-c-le5.true (omega arith), add-zero)

pub returns-then-c-le6 : goal.returns-then-c-le6
unfolding loop
returns-then-c-le6 c =
    rw (le_antisymm c.if-c-le6.true (omega arith), add-zero)

pub returns-then-c-le7 : goal.returns-then-c-le7
unfolding loop
returns-then-c-le7 c =
    rw (le_antisymm c.if-c-le7.true (omega arith), add-zero)

pub returns : goal.returns
unfolding loop
returns c =
    rw (le_antisymm c.requires.0 (omega arith), add-zero)
