-- `gradient_pairs::exact::Map::apart` meets its contract: the loop keeps `Loops`; by `loop-start`, `loop-next`, `loop-done`.
use Rattle.tree_bodies.specs.Bodies.{gap_step}
use Rattle.gradient_pairs.specs.Exact.{on_map}
use Rattle.laws.proofs.Loops.{Loops}
use Rattle.gradient_pairs.proofs.exact.Map.apart.Given as goal

abbrev pub invariant-loop-d : goal.invariant-loop-d
invariant-loop-d l = Loops (gap_step (on_map l.self.positions.now l.self.c l.i) (on_map l.self.positions.now l.self.c l.j)) l.self.c l.initial.s l.d l.s
