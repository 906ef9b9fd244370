use native.Mathlib.Omega.{arith}
use mathlib.Core.Path.{ap}
use mathlib.Core.Bool.{not}
use Rattle.laws.proofs.First.{seek-start, seek-next, seek_stop, seek-done}
use Rattle.run_entry.proofs.first_index.Goals as goal

pub loop-i-init : goal.loop-i-init
loop-i-init c =
    seek-start _ _

pub returns-then-not-index_fine : goal.returns-then-not-index_fine
returns-then-not-index_fine c =
    seek_stop c.loop-i.invariant c.loop-i-test.true (ap not (rw c.index_fine.ensures at c.if-not-index_fine.true))

pub loop-i-preserved : goal.loop-i-preserved
loop-i-preserved c =
    seek-next c.loop-i.invariant c.loop-i-test.true (ap not (rw c.index_fine.ensures at c.if-not-index_fine.false))

pub returns : goal.returns
returns c =
    omega (arith, c.loop-i.invariant.within, c.loop-i-test.false, seek-done c.loop-i.invariant c.loop-i-test.false)
