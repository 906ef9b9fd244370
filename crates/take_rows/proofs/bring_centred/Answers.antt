use Rattle.take_rows.proofs.Packing.{brings-start, brings-next, brings-at, brings-done}
use Rattle.laws.specs.Area.{at}
use lib.Ieee.{Float, nan, binary64, sub}
use mathlib.Core.Path.{ap}
use Prim.Native.Nat.{◌+◌}
use native.Mathlib.Omega.{arith}
use Rattle.take_rows.proofs.bring_centred.Goals as goal

pub loop-d-init : goal.loop-d-init
loop-d-init c =
    brings-start (omega (arith, c.requires))

pub overflow_add-area : goal.overflow_add-area
overflow_add-area c =
    omega (arith, c.requires, c.loop-d-test.true, c.loop-d.invariant.front.size)

pub offset_bounds-area-from : goal.offset_bounds-area-from
offset_bounds-area-from c =
    omega (arith, c.requires, c.loop-d-test.true, c.loop-d.invariant.front.size)

pub bounds-area-from : goal.bounds-area-from
bounds-area-from c =
    omega (arith, c.requires, c.loop-d-test.true, c.loop-d.invariant.front.size)

pub overflow_add-area-in-loop-d : goal.overflow_add-area-in-loop-d
overflow_add-area-in-loop-d c =
    omega (arith, c.requires, c.loop-d-test.true, c.loop-d.invariant.front.size)

pub offset_bounds-area-to : goal.offset_bounds-area-to
offset_bounds-area-to c =
    omega (arith, c.requires, c.loop-d-test.true, c.loop-d.invariant.front.size)

pub bounds-area-to : goal.bounds-area-to
bounds-area-to c =
    omega (arith, c.requires, c.loop-d-test.true, c.loop-d.invariant.front.size)

pub loop-d-preserved : goal.loop-d-preserved
loop-d-preserved c =
    brings-next c.loop-d.invariant _
    (ap (λ (x : Float). sub binary64 x (at c.args.means.now c.loop-d.d))
    (brings-at c.loop-d.invariant nan (c.args.from + c.loop-d.d) (omega (arith, c.requires)))) (omega (arith, c.requires))
    c.loop-d-test.true

pub shape_of-area : goal.shape_of-area
shape_of-area c =
    c.loop-d.invariant.front.size

pub returns : goal.returns
returns c =
    brings-done c.loop-d.invariant c.loop-d-test.false
