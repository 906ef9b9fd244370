use Rattle.laws.proofs.Loops.{loop-start, loop-next, loop-done}
use lib.ListN.{length-set}
use borrow.Author.Rules.{rules}
use Rattle.frame_words.proofs.put_starts.Goals as goal

pub loop-k-init : goal.loop-k-init
loop-k-init c =
    (search rules, loop-start _ _ _)

pub loop-k-preserved : goal.loop-k-preserved
loop-k-preserved c =
    (simp length-set c.loop-k.invariant.0, rw c.bits_of.ensures (loop-next c.loop-k.invariant.1 c.loop-k-test.true))

pub returns : goal.returns
returns c =
    loop-done c.loop-k.invariant.1 c.loop-k-test.false
