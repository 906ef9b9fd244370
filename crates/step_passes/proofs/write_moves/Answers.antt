use mathlib.Core.Path.{refl}
use Rattle.step_passes.proofs.Laws.{component-in, written_start, written_next, written-done}
use native.Mathlib.Omega.{arith}
use Rattle.step_passes.proofs.write_moves.Goals as goal

pub loop-e-init : goal.loop-e-init
loop-e-init c =
    (refl, refl, refl, written_start _ _ _ _)

pub offset_bounds-means-d : goal.offset_bounds-means-d
offset_bounds-means-d c =
    record { fits = omega (arith, (component-in c.loop-e.e c.args.c c.requires.0 c.requires.1)) }

pub bounds-means-d : goal.bounds-means-d
bounds-means-d c =
    (component-in c.loop-e.e c.args.c c.requires.0 c.requires.1)

pub loop-e-preserved : goal.loop-e-preserved
loop-e-preserved c =
    let w = written_next c.loop-e.invariant.3 c.loop-e-test.true c.element_at-x.ensures in
    (w.ahead-y.size, w.ahead-v.size, w.ahead-g.size, w)

pub returns : goal.returns
returns c =
    written-done c.loop-e.invariant.3 c.loop-e-test.false
