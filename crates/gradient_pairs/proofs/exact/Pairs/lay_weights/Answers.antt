use Rattle.laws.proofs.Loops.{loop-next, loop-done}
use borrow.Author.Rules.{rules}
use native.Mathlib.Omega.{arith}
use Rattle.gradient_pairs.proofs.exact.Pairs.lay_weights.Goals as goal

pub loop-k-preserved : goal.loop-k-preserved
loop-k-preserved c =
    (search rules, rw c.push.ensures (loop-next c.loop-k.invariant.1 c.loop-k-test.true))

pub returns : goal.returns
returns c =
    loop-done c.loop-k.invariant.1 (omega arith)
