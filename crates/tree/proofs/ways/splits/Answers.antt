-- `tree::ways::splits` meets its contract: the laws of its loop.
use Rattle.laws.specs.Domain.{deepest}
use Rattle.tree.proofs.Grow.{splits-few, splits-go, splits_last, splits-end, splits-le}
use Prim.Native.Nat.{◌-◌}
use borrow.Author.Rules.{rules}
use native.Mathlib.Omega.{arith}
use Rattle.tree.proofs.ways.splits.Goals as goal

pub loop-d-init : goal.loop-d-init
loop-d-init c =
    record { same = search rules }

pub overflow_add-n : goal.overflow_add-n
overflow_add-n c =
    omega (arith, splits-few c.loop-d.invariant)

pub returns-then-o-k : goal.returns-then-o-k
returns-then-o-k c =
    let e = splits_last c.loop-d.invariant c.loop-d-test.true (rw (c.child_index-o.ensures, c.child_index-k.ensures) at c.if-o-k.true) in
    (e, omega (arith, e, splits-le (deepest - c.args.depth) c.args.c c.args.z0 c.args.h0 c.args.q c.args.p))

pub loop-d-preserved : goal.loop-d-preserved
loop-d-preserved c =
    rw (c.child_half-g.ensures, c.child_centre-y.ensures, c.child_index-k.ensures)
    (splits-go c.loop-d.invariant c.loop-d-test.true (rw (c.child_index-o.ensures, c.child_index-k.ensures) at c.if-o-k.false))

pub returns : goal.returns
returns c =
    let e = splits-end c.loop-d.invariant c.loop-d-test.false in
    (e, omega (arith, e, splits-le (deepest - c.args.depth) c.args.c c.args.z0 c.args.h0 c.args.q c.args.p))
