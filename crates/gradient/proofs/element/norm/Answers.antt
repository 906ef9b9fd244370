use Rattle.gradient.specs.Element.{norm_of}
use Rattle.laws.proofs.Loops.{loop-next, loop-done}
use native.Mathlib.Omega.{arith}
use Rattle.gradient.proofs.element.norm.Goals as goal

pub loop-e-preserved : goal.loop-e-preserved
loop-e-preserved c =
    rw (c.unless_above-w.ensures, c.absolute.ensures, c.gradient_at-g.ensures) (loop-next c.loop-e.invariant (omega arith))

pub returns : goal.returns
unfolding norm_of
returns c =
    loop-done c.loop-e.invariant (omega arith)
