-- `affinity_links::plus` meets its contract, by its test. Assumes nothing.
use borrow.Author.Tests.{lt-ltb, le-ltb}
use native.Mathlib.Omega.{arith}
use Rattle.affinity_links.proofs.plus.Goals as goal

pub overflow_add-result : goal.overflow_add-result
overflow_add-result c =
    omega (arith, c.requires c.if-p-w.true)

pub offset_bounds-values-a : goal.offset_bounds-values-a
offset_bounds-values-a c =
    omega (arith, c.requires c.if-p-w.true)

pub bounds-values-a : goal.bounds-values-a
bounds-values-a c =
    omega (arith, c.requires c.if-p-w.true)

pub returns-then-p-w : goal.returns-then-p-w
returns-then-p-w c =
    rw (lt-ltb _ _ c.if-p-w.true)

pub returns : goal.returns
returns c =
    rw (le-ltb _ _ c.if-p-w.false)
