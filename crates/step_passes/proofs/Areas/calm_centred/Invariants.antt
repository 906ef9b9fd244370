-- `step_passes::Areas::calm_centred` meets its contract: the loop keeps `Tested`; by `component-in`, `tested-start`, `tested-next`, `tested-no`, `tested-done`.
use Rattle.step_passes.proofs.Laws.{Tested}
use Rattle.step_passes.specs.Passes.{areas_before}
use Prim.Native.Nat.{◌*◌}
use Rattle.step_passes.proofs.Areas.calm_centred.Given as goal

abbrev pub invariant-loop-e : goal.invariant-loop-e
invariant-loop-e l = Tested l.means (areas_before l.self) l.self.c (l.self.n * l.self.c) l.e
