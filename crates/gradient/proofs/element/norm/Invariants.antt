-- `gradient::element::norm` meets its contract: the loop keeps `Loops`; by `loop-start`, `loop-next`, `loop-done`.
use Rattle.gradient.specs.Element.{norm_step, gradient_of}
use Rattle.laws.proofs.Loops.{Loops}
use Rattle.gradient.proofs.element.norm.Given as goal

abbrev pub invariant-loop-e : goal.invariant-loop-e
invariant-loop-e l = Loops (norm_step (gradient_of l.exact l.forces l.z l.c)) l.m l.initial.w l.e l.w
