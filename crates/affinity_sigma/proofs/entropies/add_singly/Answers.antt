use mathlib.Core.Path.{refl, ◌∙◌}
use Rattle.laws.proofs.Loops.{loop-start, loop-next, loop-done}
use Rattle.laws.proofs.Loops.{loop-moved}
use native.Mathlib.Omega.{arith}
use Rattle.affinity_sigma.proofs.entropies.add_singly.Goals as goal

pub loop-t-init : goal.loop-t-init
loop-t-init c =
    loop-start _ _ _

pub loop-t-preserved : goal.loop-t-preserved
loop-t-preserved c =
    rw c.term-h.ensures (loop-next c.loop-t.invariant (omega arith))

pub returns : goal.returns
returns c =
    loop-done c.loop-t.invariant (omega arith) ∙ loop-moved _ _ _ _ _ (λ t y h. refl)
