use mathlib.Core.Path.{sym, ◌∙◌}
use native.Mathlib.Omega.{arith}
use Rattle.laws.proofs.First.{seek-start, seek-next, seek_stop, seek-done}
use Rattle.monitor_read.proofs.first_broken.Goals as goal

pub loop-i-init : goal.loop-i-init
loop-i-init c =
    seek-start _ _

pub returns-then-is_broken : goal.returns-then-is_broken
returns-then-is_broken c =
    seek_stop c.loop-i.invariant c.loop-i-test.true (sym c.is_broken.ensures ∙ c.if-is_broken.true)

pub loop-i-preserved : goal.loop-i-preserved
loop-i-preserved c =
    seek-next c.loop-i.invariant c.loop-i-test.true (sym c.is_broken.ensures ∙ c.if-is_broken.false)

pub returns : goal.returns
returns c =
    omega (arith, seek-done c.loop-i.invariant c.loop-i-test.false, c.loop-i.invariant.within, c.loop-i-test.false)
