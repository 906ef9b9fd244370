use Rattle.laws.specs.Area.{zero64}
use lib.Ieee.{Float}
use lib.ListN.{set}
use mathlib.Core.List.{List}
use mathlib.Core.Path.{refl, ap, ◌∙◌}
use Rattle.affinity_joins.proofs.Joint.{place-in}
use Rattle.laws.proofs.Loops.{loop-start, loop-next, loop-done}
use Prim.Native.Nat.{◌-◌, ◌+◌, ◌*◌}
use native.Mathlib.Omega.{arith}
use Rattle.affinity_joins.proofs.join_frame.Goals as goal

pub loop-j-init : goal.loop-j-init
loop-j-init c =
    (refl, loop-start _ _ _)

pub join_pair-requires : goal.join_pair-requires
join_pair-requires c =
    let the-loop = c.loop-j in (
      rw the-loop.invariant.0 (place-in _ _ _ _ (omega (arith, c.loop-j-test.true, c.requires.0)) c.requires.0 c.requires.1),
      rw
          the-loop.invariant.0 (place-in _ _ _ _ c.requires.0 (omega (arith, c.loop-j-test.true, c.requires.0)) c.requires.1),
    )

pub loop-j-preserved : goal.loop-j-preserved
loop-j-preserved c =
    let the-join-pair = c.join_pair in
    let the-loop-test = c.loop-j-test in
    let the-loop = c.loop-j in
    (the-join-pair.auto.affinities ∙ the-loop.invariant.0, rw the-join-pair.ensures (loop-next the-loop.invariant.1 the-loop-test.true))

pub overflow_mul-affinities : goal.overflow_mul-affinities
overflow_mul-affinities c =
    omega (arith, (place-in _ _ _ _ c.requires.0 c.requires.0 c.requires.1))

pub overflow_add-affinities : goal.overflow_add-affinities
overflow_add-affinities c =
    omega (arith, (place-in _ _ _ _ c.requires.0 c.requires.0 c.requires.1))

pub offset_bounds-affinities-i : goal.offset_bounds-affinities-i
offset_bounds-affinities-i c =
    omega (arith, (place-in _ _ _ _ c.requires.0 c.requires.0 c.requires.1))

pub bounds-affinities-i : goal.bounds-affinities-i
bounds-affinities-i c =
    rw c.loop-j.invariant.0 (place-in _ _ _ _ c.requires.0 c.requires.0 c.requires.1)

pub returns : goal.returns
returns c =
    ap (λ (l : List Float). set l (c.args.i * c.args.n + c.args.i) zero64)
    (loop-done c.loop-j.invariant.1 c.loop-j-test.false)
