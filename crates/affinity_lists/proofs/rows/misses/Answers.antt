use Rattle.laws.proofs.Sums.{adds-room, adds-start, adds-next, adds-done}
use Rattle.affinity_lists.proofs.Linked.{miss-le}
use native.Mathlib.Omega.{arith}
use Rattle.affinity_lists.proofs.rows.misses.Goals as goal

pub loop-t-init : goal.loop-t-init
loop-t-init c =
    adds-start

pub miss-c-requires : goal.miss-c-requires
miss-c-requires c =
    (c.requires.0, c.loop-t-test.true, c.requires.1, c.requires.2, c.requires.3)

pub overflow_add-c : goal.overflow_add-c
overflow_add-c c =
    omega (arith, c.miss-c.ensures, adds-room (miss-le _ _ _ _) c.loop-t-test.true c.loop-t.invariant)

pub loop-t-preserved : goal.loop-t-preserved
loop-t-preserved c =
    adds-next c.miss-c.ensures (miss-le _ _ _ _) c.loop-t-test.true c.loop-t.invariant

pub returns : goal.returns
returns c =
    (adds-done c.loop-t-test.false c.loop-t.invariant).0
