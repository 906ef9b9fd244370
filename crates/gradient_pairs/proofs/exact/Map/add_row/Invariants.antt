-- `gradient_pairs::exact::Map::add_row` meets its contract: the loop keeps `Loops`; by `row_in`, `loop-start`, `loop-next`, `loop-done`.
use Rattle.gradient_pairs.specs.Exact.{num_step}
use Rattle.laws.proofs.Loops.{Loops}
use Rattle.gradient_pairs.proofs.exact.Map.add_row.Given as goal

abbrev pub invariant-loop-j : goal.invariant-loop-j
invariant-loop-j l = Loops (num_step l.self.positions.now l.self.c l.i) l.self.n l.initial.s l.j l.s
