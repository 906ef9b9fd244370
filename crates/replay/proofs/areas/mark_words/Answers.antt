use Rattle.laws.proofs.Loops.{loop-start, loop-next, loop-done}
use Rattle.std.proofs.Common.{refl, arith, rules}
use Rattle.replay.proofs.areas.mark_words.Goals as goal

pub loop-i-init : goal.loop-i-init
loop-i-init c =
    (refl, loop-start _ _ _)

pub loop-i-preserved : goal.loop-i-preserved
loop-i-preserved c =
    (search rules, loop-next c.loop-i.invariant.1 (omega (arith, c.loop-i-test.true, c.loop-i.invariant.0)))

pub returns : goal.returns
returns c =
    loop-done c.loop-i.invariant.1 (omega (arith, c.loop-i-test.false, c.loop-i.invariant.0))
