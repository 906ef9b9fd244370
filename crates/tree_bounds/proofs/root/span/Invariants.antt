-- `tree_bounds::root::span` meets its contract: the loop keeps `Loops`; by `row_in`, `loop-start`, `loop-next`, `loop-done`.
use Rattle.laws.proofs.Loops.{Loops}
use Rattle.tree_bounds.specs.Bounds.{span_step}
use Rattle.tree_bounds.proofs.root.span.Given as goal

abbrev pub invariant-loop-i : goal.invariant-loop-i
invariant-loop-i l = Loops (span_step l.positions l.c l.d) l.n l.initial.s l.i l.s
