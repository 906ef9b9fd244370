-- `gradient::element::share_sum` meets its contract: the loop keeps `Loops`; by `row_in`, `loop-start`, `loop-next`, `loop-done`.
use Rattle.gradient.specs.Element.{share_step}
use Rattle.laws.proofs.Loops.{Loops}
use Rattle.gradient.proofs.element.share_sum.Given as goal

abbrev pub invariant-loop-i : goal.invariant-loop-i
invariant-loop-i l = Loops (share_step l.forces l.c) l.n l.initial.s l.i l.s
