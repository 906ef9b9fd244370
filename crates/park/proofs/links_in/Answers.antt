-- `park::links_in` meets its contract: each need follows from its own premises.
use Rattle.parked.specs.Parked.{links_in}
use borrow.Author.Rules.{rules}
use native.Mathlib.Omega.{arith}
use Rattle.park.proofs.links_in.Goals as goal

pub offset_bounds-offsets-n : goal.offset_bounds-offsets-n
offset_bounds-offsets-n c =
    search (rules, c.requires c.if-tree.true)

pub bounds-offsets-n : goal.bounds-offsets-n
bounds-offsets-n c =
    search (rules, c.requires c.if-tree.true)

pub overflow_cast-result : goal.overflow_cast-result
overflow_cast-result c =
    omega (arith, c.type_inv.offsets c.args.n)

pub returns-then-tree : goal.returns-then-tree
unfolding links_in
returns-then-tree c =
    rw c.if-tree.true

pub returns : goal.returns
unfolding links_in
returns c =
    rw c.if-tree.false
