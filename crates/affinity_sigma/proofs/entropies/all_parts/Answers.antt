use Rattle.laws.proofs.Every.{every-at}
use Rattle.laws.proofs.Loops.{loop-start, loop-next, loop-done}
use native.Mathlib.Omega.{arith}
use Rattle.affinity_sigma.proofs.entropies.all_parts.Goals as goal

pub loop-t-init : goal.loop-t-init
loop-t-init c =
    (loop-start _ _ _, loop-start _ _ _)

pub held-v-requires : goal.held-v-requires
held-v-requires c =
    every-at _ _ c.requires.2 _ c.loop-t-test.true

pub digits_of-requires : goal.digits_of-requires
digits_of-requires c =
    (c.held-v.ensures.1, c.held-v.ensures.2)

pub power_of-requires : goal.power_of-requires
power_of-requires c =
    (c.held-v.ensures.1, c.held-v.ensures.2)

pub loop-t-preserved : goal.loop-t-preserved
loop-t-preserved c = (
  rw (c.digits_of.ensures, c.held-v.ensures.0) (loop-next c.loop-t.invariant.0 (omega arith)),
  rw (c.power_of.ensures, c.held-v.ensures.0)
      (loop-next c.loop-t.invariant.1 (omega arith)),
)

pub returns : goal.returns
returns c =
    record { ms_after = loop-done c.loop-t.invariant.0 (omega arith); ks_after = loop-done c.loop-t.invariant.1 (omega arith) }
