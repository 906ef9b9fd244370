use Rattle.laws.proofs.Loops.{loop-start, loop-next, loop-done}
use mathlib.Core.Path.{refl, ◌∙◌}
use lib.Ieee.{in_float}
use lib.Dec.{le→leb}
use Prim.Native.Nat.{◌^◌, ◌-◌}
use native.Mathlib.Omega.{arith}
use Rattle.affinity_joins.proofs.symmetrize_probabilities.Goals as goal

pub int_to_float-norm : goal.int_to_float-norm
unfolding in_float
int_to_float-norm c =
    le→leb c.args.n (2 ^ 53) (omega arith)

pub loop-i-init : goal.loop-i-init
loop-i-init c =
    (refl, loop-start _ _ _)

pub join_frame-requires : goal.join_frame-requires
join_frame-requires c =
    let the-loop = c.loop-i in
    (c.loop-i-test.true, rw the-loop.invariant.0 c.requires.1)

pub loop-i-preserved : goal.loop-i-preserved
loop-i-preserved c =
    let the-join-frame = c.join_frame in
    let the-loop-test = c.loop-i-test in
    let the-loop = c.loop-i in
    (the-join-frame.auto.affinities ∙ the-loop.invariant.0, rw the-join-frame.ensures (loop-next the-loop.invariant.1 the-loop-test.true))

pub shape_of-affinities : goal.shape_of-affinities
shape_of-affinities c =
    c.loop-i.invariant.0

pub returns : goal.returns
returns c =
    loop-done c.loop-i.invariant.1 c.loop-i-test.false
