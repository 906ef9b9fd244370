use mathlib.Core.Path.{sym, ◌∙◌}
use Rattle.step_passes.proofs.Laws.{component-in, tested-start, tested-next, tested-no, tested-done}
use native.Mathlib.Omega.{arith}
use Rattle.step_passes.proofs.Areas.calm_centred.Goals as goal

pub loop-e-init : goal.loop-e-init
loop-e-init c =
    tested-start _ _ _ _

pub offset_bounds-means-d : goal.offset_bounds-means-d
offset_bounds-means-d c =
    record { fits = omega (arith, (component-in c.loop-e.e c.args.self.c c.requires.0 c.requires.1)) }

pub bounds-means-d : goal.bounds-means-d
bounds-means-d c =
    (component-in c.loop-e.e c.args.self.c c.requires.0 c.requires.1)

pub returns-then-not-is_calm : goal.returns-then-not-is_calm
returns-then-not-is_calm c =
    tested-no c.loop-e.invariant c.loop-e-test.true c.element_at-x.ensures (sym c.is_calm.ensures ∙ c.if-not-is_calm.true)

pub loop-e-preserved : goal.loop-e-preserved
loop-e-preserved c =
    tested-next c.loop-e.invariant c.loop-e-test.true c.element_at-x.ensures (sym c.is_calm.ensures ∙ c.if-not-is_calm.false)

pub returns : goal.returns
returns c =
    tested-done c.loop-e.invariant c.loop-e-test.false
