use Prim.Native.Nat.{◌+◌}
use Rattle.partner_write.proofs.Laws.{rows-put-start, list-within, list-next, lists-end}
use native.Mathlib.Omega.{arith}
use Rattle.partner_write.proofs.put_lists.Goals as goal

pub loop-i-init : goal.loop-i-init
loop-i-init c =
    rows-put-start

pub offset_bounds-offsets-i : goal.offset_bounds-offsets-i
offset_bounds-offsets-i c =
    omega (arith, c.loop-i-test.true, c.requires.0.offsets-long)

pub bounds-offsets-i : goal.bounds-offsets-i
bounds-offsets-i c =
    omega (arith, c.loop-i-test.true, c.requires.0.offsets-long)

pub overflow_cast-a : goal.overflow_cast-a
overflow_cast-a c =
    omega (arith, c.type_inv.offsets c.loop-i.i)

pub offset_bounds-offsets-i-in-loop-i : goal.offset_bounds-offsets-i-in-loop-i
offset_bounds-offsets-i-in-loop-i c =
    omega (arith, c.loop-i-test.true, c.requires.0.offsets-long)

pub bounds-offsets-i-in-loop-i : goal.bounds-offsets-i-in-loop-i
bounds-offsets-i-in-loop-i c =
    omega (arith, c.loop-i-test.true, c.requires.0.offsets-long)

pub overflow_cast-e : goal.overflow_cast-e
overflow_cast-e c =
    omega (arith, c.type_inv.offsets (c.loop-i.i + 1))

pub overflow_sub-e : goal.overflow_sub-e
overflow_sub-e c =
    omega (arith, (list-within c.requires.0 c.loop-i.i c.loop-i-test.true).0)

pub put_list-requires : goal.put_list-requires
put_list-requires c =
    let w = list-within c.requires.0 c.loop-i.i c.loop-i-test.true in (
      omega (arith, w.0, w.1, c.requires.0.weights-long),
      omega (arith, w.0, w.1, c.requires.0.indices-long),
      omega
          (arith, w.0, w.1, c.requires.1, c.loop-i.invariant.size),
    )

pub loop-i-preserved : goal.loop-i-preserved
loop-i-preserved c =
    list-next c.requires.0 c.loop-i.invariant c.loop-i-test.true c.put_list.auto.target c.put_list.ensures

pub shape_of-target : goal.shape_of-target
shape_of-target c =
    c.loop-i.invariant.size

pub returns : goal.returns
returns c =
    lists-end c.requires.0 c.loop-i.invariant c.loop-i-test.false
