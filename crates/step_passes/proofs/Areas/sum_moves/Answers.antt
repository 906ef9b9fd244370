use Rattle.step_passes.proofs.Laws.{component-in, summed-start, summed-next, summed-done}
use native.Mathlib.Omega.{arith}
use Rattle.step_passes.proofs.Areas.sum_moves.Goals as goal

pub loop-e-init : goal.loop-e-init
loop-e-init c =
    summed-start _ _ _ _

pub offset_bounds-sums-d : goal.offset_bounds-sums-d
offset_bounds-sums-d c =
    record { fits = omega (arith, component-in c.loop-e.e c.args.self.c c.requires.0 c.requires.1) }

pub bounds-sums-d : goal.bounds-sums-d
bounds-sums-d c =
    component-in c.loop-e.e c.args.self.c c.requires.0 c.requires.1

pub offset_bounds-sums-d-in-loop-e : goal.offset_bounds-sums-d-in-loop-e
offset_bounds-sums-d-in-loop-e c =
    record { fits = omega (arith, component-in c.loop-e.e c.args.self.c c.requires.0 c.requires.1) }

pub bounds-sums-d-in-loop-e : goal.bounds-sums-d-in-loop-e
bounds-sums-d-in-loop-e c =
    component-in c.loop-e.e c.args.self.c c.requires.0 c.requires.1

pub loop-e-preserved : goal.loop-e-preserved
loop-e-preserved c =
    summed-next c.loop-e.invariant c.loop-e-test.true c.element_at-x.ensures c.still_calm-calm.ensures

pub returns : goal.returns
returns c =
    summed-done c.loop-e.invariant c.loop-e-test.false
