-- `step_passes::Areas::sum_moves` meets its contract: the loop keeps `Summed`; by `component-in`, `summed-start`, `summed-next`, `summed-done`.
use Rattle.step_passes.proofs.Laws.{Summed}
use Rattle.step_passes.specs.Passes.{areas_before}
use Prim.Native.Nat.{◌*◌}
use Rattle.step_passes.proofs.Areas.sum_moves.Given as goal

abbrev pub invariant-loop-e : goal.invariant-loop-e
invariant-loop-e l = Summed (areas_before l.self) l.self.c (l.self.n * l.self.c) l.initial.sums l.e l.sums l.calm
