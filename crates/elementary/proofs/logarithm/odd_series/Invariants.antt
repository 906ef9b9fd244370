-- `elementary::logarithm::odd_series` meets its contract: the loop keeps `Loops`; by `loop-start`, `loop-next`, `loop-done`.
use Rattle.elementary.specs.Ln.{odd_step}
use Rattle.laws.proofs.Loops.{Loops}
use Rattle.elementary.proofs.logarithm.odd_series.Given as goal

abbrev pub invariant-loop-i : goal.invariant-loop-i
invariant-loop-i l = Loops (odd_step l.z) 10 l.initial.t l.i l.t
