use Rattle.affinity_near.proofs.Apart.{above-plain}
use Rattle.replay_affinity.proofs.Plain.{plain-next}
use Rattle.std.proofs.Common.{refl, not-suc-le-zero, arith, rules}
use Rattle.replay_affinity.proofs.choices.read_distances.Goals as goal

pub loop-i-init : goal.loop-i-init
loop-i-init c =
    (refl, search rules, λ j h. absurd (not-suc-le-zero h))

pub loop-i-preserved : goal.loop-i-preserved
loop-i-preserved c = (
  search rules,
  omega arith,
  plain-next c.loop-i.to c.loop-i.i c.unless_above.result (omega (arith, c.loop-i.invariant.0, c.requires))
      (rw c.unless_above.ensures (above-plain _)) c.loop-i.invariant.2,
)

pub returns : goal.returns
returns c =
    λ j h. c.loop-i.invariant.2 j (omega (arith, h, c.loop-i-test.false))
