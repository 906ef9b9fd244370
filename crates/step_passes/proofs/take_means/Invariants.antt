-- `step_passes::take_means` meets its contract: the loop keeps `Loops`; by `loop-start`, `loop-next`, `loop-done`.
use Rattle.step_passes.specs.Passes.{mean_step}
use Rattle.laws.proofs.Loops.{Loops}
use Prim.Native.Nat.{◌-◌}
use Rattle.step_passes.proofs.take_means.Given as goal

abbrev pub invariant-loop-d : goal.invariant-loop-d
invariant-loop-d l = Loops (mean_step l.count) l.c l.initial.sums l.d l.sums
