use Rattle.laws.proofs.Loops.{loop-start, loop-next, loop-done}
use borrow.Author.Rules.{rules}
use native.Mathlib.Omega.{arith}
use Rattle.affinity_sigma.proofs.weights.lay_halved.Goals as goal

pub loop-t-init : goal.loop-t-init
loop-t-init c =
    (search rules, loop-start _ _ _)

pub halved_by-requires : goal.halved_by-requires
halved_by-requires c =
    c.requires.3 _ (omega arith)

pub loop-t-preserved : goal.loop-t-preserved
loop-t-preserved c =
    (search rules, rw c.halved_by.ensures (loop-next c.loop-t.invariant.1 (omega arith)))

pub returns : goal.returns
returns c =
    loop-done c.loop-t.invariant.1 (omega arith)
