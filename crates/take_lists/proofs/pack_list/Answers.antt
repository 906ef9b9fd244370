use Rattle.take_lists.proofs.OneList.{sifts-start, sifts-pass, sifts-room, sifts-next, sifts-done}
use native.Mathlib.Omega.{arith}
use Rattle.take_lists.proofs.pack_list.Goals as goal

pub loop-t-init : goal.loop-t-init
loop-t-init c =
    sifts-start c.requires.2 c.requires.3 c.requires.4

pub overflow_add-a : goal.overflow_add-a
overflow_add-a c =
    omega (arith, c.requires.4, c.loop-t-test.true)

pub offset_bounds-indices-a : goal.offset_bounds-indices-a
offset_bounds-indices-a c =
    omega (arith, c.requires.4, c.loop-t-test.true, c.loop-t.invariant.indices.front.size)

pub bounds-indices-a : goal.bounds-indices-a
bounds-indices-a c =
    omega (arith, c.requires.4, c.loop-t-test.true, c.loop-t.invariant.indices.front.size)

pub place_of-x-requires : goal.place_of-x-requires
place_of-x-requires c =
    c.requires.0

pub loop-t-preserved-then-x-keep : goal.loop-t-preserved-then-x-keep
loop-t-preserved-then-x-keep c =
    sifts-pass c.requires.2 c.requires.3 c.requires.4 c.loop-t-test.true c.loop-t.invariant c.place_of-x.ensures (omega (arith, c.if-x-keep.true))

pub overflow_add-weights : goal.overflow_add-weights
overflow_add-weights c =
    omega (arith, c.requires.4, c.loop-t-test.true)

pub offset_bounds-weights-a : goal.offset_bounds-weights-a
offset_bounds-weights-a c =
    omega (arith, c.requires.3, c.loop-t-test.true, c.loop-t.invariant.weights.front.size)

pub bounds-weights-a : goal.bounds-weights-a
bounds-weights-a c =
    omega (arith, c.requires.3, c.loop-t-test.true, c.loop-t.invariant.weights.front.size)

pub offset_bounds-weights-e : goal.offset_bounds-weights-e
offset_bounds-weights-e c =
    omega (arith, sifts-room c.requires.2 c.requires.3 c.requires.4 c.loop-t-test.true c.loop-t.invariant)

pub bounds-weights-e : goal.bounds-weights-e
bounds-weights-e c =
    omega (arith, sifts-room c.requires.2 c.requires.3 c.requires.4 c.loop-t-test.true c.loop-t.invariant)

pub overflow_cast-indices : goal.overflow_cast-indices
overflow_cast-indices c =
    omega (arith, c.if-x-keep.false, c.requires.1)

pub offset_bounds-indices-e : goal.offset_bounds-indices-e
offset_bounds-indices-e c =
    omega (arith, sifts-room c.requires.2 c.requires.3 c.requires.4 c.loop-t-test.true c.loop-t.invariant)

pub bounds-indices-e : goal.bounds-indices-e
bounds-indices-e c =
    omega (arith, sifts-room c.requires.2 c.requires.3 c.requires.4 c.loop-t-test.true c.loop-t.invariant)

pub overflow_add-e : goal.overflow_add-e
overflow_add-e c =
    omega (arith, sifts-room c.requires.2 c.requires.3 c.requires.4 c.loop-t-test.true c.loop-t.invariant)

pub loop-t-preserved : goal.loop-t-preserved
loop-t-preserved c =
    sifts-next c.requires.2 c.requires.3 c.requires.4 c.loop-t-test.true c.loop-t.invariant c.place_of-x.ensures c.if-x-keep.false

pub shape_of-weights : goal.shape_of-weights
shape_of-weights c =
    c.loop-t.invariant.weights.front.size

pub shape_of-indices : goal.shape_of-indices
shape_of-indices c =
    c.loop-t.invariant.indices.front.size

pub returns : goal.returns
returns c =
    let d = sifts-done c.requires.2 c.requires.3 c.requires.4 c.loop-t-test.false c.loop-t.invariant in
    record { value = d.0; weights_after = d.1; indices_after = d.2 }
