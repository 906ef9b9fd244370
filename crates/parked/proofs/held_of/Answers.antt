-- `parked::held_of` meets its contract: each need follows from its own premises.
use native.Mathlib.Nat.{mul-le-mul}
use native.Mathlib.Omega.{arith}
use Rattle.parked.proofs.held_of.Goals as goal

pub returns-then-tree : goal.returns-then-tree
returns-then-tree c =
    (rw c.if-tree.true, omega arith)

pub overflow_mul-result : goal.overflow_mul-result
overflow_mul-result c =
    omega (arith, mul-le-mul c.requires c.requires)

pub returns : goal.returns
returns c =
    (rw c.if-tree.false, mul-le-mul c.requires c.requires)
