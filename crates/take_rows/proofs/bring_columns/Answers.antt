use Rattle.take_rows.proofs.Packing.{brings-start, brings-next, brings-at, brings-done}
use Rattle.laws.specs.Area.{num}
use Prim.Native.Nat.{◌+◌}
use native.Mathlib.Omega.{arith}
use Rattle.take_rows.proofs.bring_columns.Goals as goal

pub loop-j-init : goal.loop-j-init
loop-j-init c =
    brings-start (omega (arith, c.requires))

pub overflow_add-area : goal.overflow_add-area
overflow_add-area c =
    omega (
      arith,
      c.requires,
      c.requires.2.few,
      c.requires.2.below c.loop-j.j c.loop-j-test.true,
      c.loop-j-test.true,
      c.loop-j.invariant.front.size,
    )

pub offset_bounds-area-from : goal.offset_bounds-area-from
offset_bounds-area-from c =
    omega (
      arith,
      c.requires,
      c.requires.2.few,
      c.requires.2.below c.loop-j.j c.loop-j-test.true,
      c.loop-j-test.true,
      c.loop-j.invariant.front.size,
    )

pub bounds-area-from : goal.bounds-area-from
bounds-area-from c =
    omega (
      arith,
      c.requires,
      c.requires.2.few,
      c.requires.2.below c.loop-j.j c.loop-j-test.true,
      c.loop-j-test.true,
      c.loop-j.invariant.front.size,
    )

pub overflow_add-area-in-loop-j : goal.overflow_add-area-in-loop-j
overflow_add-area-in-loop-j c =
    omega (arith, c.requires, c.requires.2.few, c.loop-j-test.true, c.loop-j.invariant.front.size)

pub offset_bounds-area-to : goal.offset_bounds-area-to
offset_bounds-area-to c =
    omega (arith, c.requires, c.requires.2.few, c.loop-j-test.true, c.loop-j.invariant.front.size)

pub bounds-area-to : goal.bounds-area-to
bounds-area-to c =
    omega (arith, c.requires, c.requires.2.few, c.loop-j-test.true, c.loop-j.invariant.front.size)

pub loop-j-preserved : goal.loop-j-preserved
loop-j-preserved c =
    brings-next c.loop-j.invariant _
    (brings-at c.loop-j.invariant 0
    (c.args.from + num c.args.keep.now c.loop-j.j)
    (omega (arith, c.requires, c.requires.2.no_lower c.loop-j.j c.loop-j-test.true))) (omega (arith, c.requires, c.requires.2.few))
    c.loop-j-test.true

pub shape_of-area : goal.shape_of-area
shape_of-area c =
    c.loop-j.invariant.front.size

pub returns : goal.returns
returns c =
    brings-done c.loop-j.invariant c.loop-j-test.false
