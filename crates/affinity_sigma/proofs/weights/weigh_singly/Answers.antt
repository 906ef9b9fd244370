use mathlib.Core.Path.{◌∙◌}
use Rattle.laws.proofs.Loops.{loop-start, loop-next, loop-done}
use Rattle.laws.proofs.Loops.{loop-moved}
use mathlib.Core.Path.{refl}
use borrow.Author.Rules.{rules}
use native.Mathlib.Omega.{arith}
use Rattle.affinity_sigma.proofs.weights.weigh_singly.Goals as goal

pub loop-t-init : goal.loop-t-init
loop-t-init c =
    (search rules, loop-start _ _ _)

pub loop-t-preserved : goal.loop-t-preserved
loop-t-preserved c =
    (search rules, rw c.weight.ensures (loop-next c.loop-t.invariant.1 (omega arith)))

pub returns : goal.returns
returns c =
    loop-done c.loop-t.invariant.1 (omega arith) ∙ loop-moved _ _ _ _ _ (λ t y h. refl)
