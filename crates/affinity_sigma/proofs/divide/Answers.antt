use borrow.Author.Rules.{rules}
use native.Mathlib.Omega.{arith}
use Rattle.laws.proofs.Loops.{loop-start, loop-next, loop-done}
use Rattle.affinity_sigma.proofs.divide.Goals as goal

pub loop-j-init : goal.loop-j-init
loop-j-init c =
    (search rules, loop-start _ _ _)

pub loop-j-preserved : goal.loop-j-preserved
loop-j-preserved c =
    (search rules, loop-next c.loop-j.invariant.1 (omega arith))

pub returns : goal.returns
returns c =
    loop-done c.loop-j.invariant.1 (omega arith)
