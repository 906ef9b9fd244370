use Rattle.laws.proofs.Loops.{loop-start, loop-next, loop-done}
use Rattle.std.proofs.Common.{refl, rules}
use Rattle.replay.proofs.areas.copy_words.Goals as goal

pub loop-i-init : goal.loop-i-init
loop-i-init c =
    (refl, loop-start _ _ _)

pub loop-i-preserved : goal.loop-i-preserved
loop-i-preserved c =
    (search rules, rw (c.value_at.ensures, c.plus.ensures) (loop-next c.loop-i.invariant.1 c.loop-i-test.true))

pub returns : goal.returns
returns c =
    loop-done c.loop-i.invariant.1 c.loop-i-test.false
