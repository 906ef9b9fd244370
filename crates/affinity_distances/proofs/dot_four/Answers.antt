use native.Mathlib.Omega.{arith}
use Prim.Native.Nat.{◌-◌}
use Rattle.laws.proofs.Loops.{loop-start, loop-next, loop-done}
use Rattle.affinity_distances.proofs.Fours.{one_on, two-on, three-on}
use Rattle.affinity_distances.proofs.dot_four.Goals as goal

pub loop-k-init : goal.loop-k-init
loop-k-init c =
    (loop-start _ _ _, loop-start _ _ _, loop-start _ _ _, loop-start _ _ _)

pub loop-k-preserved : goal.loop-k-preserved
loop-k-preserved c = (
  loop-next c.loop-k.invariant.0 (omega arith),
  loop-next c.loop-k.invariant.1 (omega arith),
  loop-next c.loop-k.invariant.2 (omega arith),
  loop-next
      c.loop-k.invariant.3 (omega arith),
)

pub returns : goal.returns
returns c = (
  loop-done c.loop-k.invariant.0 (omega arith),
  rw (one_on c.args.j c.args.f)
      (loop-done c.loop-k.invariant.1 (omega arith)),
  rw (two-on c.args.j c.args.f)
      (loop-done c.loop-k.invariant.2 (omega arith)),
  rw (three-on c.args.j c.args.f)
      (loop-done c.loop-k.invariant.3 (omega arith)),
)
