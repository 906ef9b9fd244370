use Rattle.laws.proofs.Sums.{adds-room, adds-start, adds-next, adds-done}
use Rattle.affinity_lists.proofs.Linked.{misses-le, links-count}
use native.Mathlib.Omega.{arith}
use Rattle.affinity_lists.proofs.rows.total.Goals as goal

pub loop-j-init : goal.loop-j-init
loop-j-init c =
    adds-start

pub misses-c-requires : goal.misses-c-requires
misses-c-requires c =
    (c.loop-j-test.true, c.requires.0, omega (arith, c.requires.1), c.requires.2)

pub overflow_add-c : goal.overflow_add-c
overflow_add-c c =
    omega (arith, c.misses-c.ensures, c.requires.1, adds-room (misses-le _ _ _) c.loop-j-test.true c.loop-j.invariant)

pub loop-j-preserved : goal.loop-j-preserved
loop-j-preserved c =
    adds-next c.misses-c.ensures (misses-le _ _ _) c.loop-j-test.true c.loop-j.invariant

pub overflow_mul-result : goal.overflow_mul-result
overflow_mul-result c =
    omega (arith, c.requires.1)

pub overflow_add-result : goal.overflow_add-result
overflow_add-result c =
    omega (arith, c.requires.1, (adds-done c.loop-j-test.false c.loop-j.invariant).1)

pub returns : goal.returns
returns c =
    omega (arith, links-count _ _ _ c.requires.2, (adds-done c.loop-j-test.false c.loop-j.invariant).0)
