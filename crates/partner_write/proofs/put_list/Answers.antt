use Prim.Native.Nat.{◌+◌}
use Rattle.partner_write.proofs.Laws.{rows-put-start, rows-put-done, link-next, link-size}
use native.Mathlib.Omega.{arith}
use Rattle.partner_write.proofs.put_list.Goals as goal

pub loop-t-init : goal.loop-t-init
loop-t-init c =
    rows-put-start

pub overflow_add-p : goal.overflow_add-p
overflow_add-p c =
    omega (arith, c.loop-t-test.true, c.requires, c.well_formed)

pub offset_bounds-indices-p : goal.offset_bounds-indices-p
offset_bounds-indices-p c =
    omega (arith, c.loop-t-test.true, c.requires)

pub bounds-indices-p : goal.bounds-indices-p
bounds-indices-p c =
    omega (arith, c.loop-t-test.true, c.requires)

pub overflow_cast-to : goal.overflow_cast-to
overflow_cast-to c =
    omega (arith, c.type_inv.indices (c.args.a + c.loop-t.t))

pub overflow_mul-p : goal.overflow_mul-p
overflow_mul-p c =
    omega (arith, c.loop-t-test.true, c.requires, c.well_formed)

pub offset_bounds-weights-p : goal.offset_bounds-weights-p
offset_bounds-weights-p c =
    omega (arith, c.loop-t-test.true, c.requires)

pub bounds-weights-p : goal.bounds-weights-p
bounds-weights-p c =
    omega (arith, c.loop-t-test.true, c.requires)

pub put_link-requires : goal.put_link-requires
put_link-requires c =
    omega (arith, c.loop-t-test.true, c.requires, c.loop-t.invariant.size)

pub loop-t-preserved : goal.loop-t-preserved
loop-t-preserved c =
    link-next c.args.a c.loop-t.invariant c.loop-t-test.true c.requires.2 (λ j. link-size _ _ _) c.put_link.auto.target
    c.put_link.ensures

pub shape_of-target : goal.shape_of-target
shape_of-target c =
    c.loop-t.invariant.size

pub returns : goal.returns
returns c =
    rows-put-done c.loop-t.invariant c.loop-t-test.false
