use Rattle.laws.proofs.Loops.{loop-next, loop-done}
use borrow.Author.Rules.{rules}
use Rattle.gradient_pairs.proofs.exact.Map.lay_nums.Goals as goal

pub loop-k-preserved : goal.loop-k-preserved
loop-k-preserved c =
    (search rules, rw c.num.ensures (loop-next c.loop-k.invariant.1 c.loop-k-test.true))

pub returns : goal.returns
returns c =
    loop-done c.loop-k.invariant.1 c.loop-k-test.false
