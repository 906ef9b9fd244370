use mathlib.Core.Path.{sym, ◌∙◌}
use native.Mathlib.Omega.{arith}
use Rattle.laws.proofs.First.{seek-start, seek-next, seek_stop, seek-done}
use Rattle.monitor_write.proofs.first_faulty.Goals as goal

pub loop-i-init : goal.loop-i-init
loop-i-init c =
    seek-start _ _

pub returns-then-is_faulty : goal.returns-then-is_faulty
returns-then-is_faulty c =
    seek_stop c.loop-i.invariant c.loop-i-test.true (sym c.is_faulty.ensures ∙ c.if-is_faulty.true)

pub loop-i-preserved : goal.loop-i-preserved
loop-i-preserved c =
    seek-next c.loop-i.invariant c.loop-i-test.true (sym c.is_faulty.ensures ∙ c.if-is_faulty.false)

pub returns : goal.returns
returns c =
    omega (arith, seek-done c.loop-i.invariant c.loop-i-test.false, c.loop-i.invariant.within, c.loop-i-test.false)
