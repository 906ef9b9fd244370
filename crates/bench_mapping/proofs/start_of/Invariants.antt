-- `bench_mapping::start_of` meets its contract: the loop keeps `Loops`; by `loop-start`, `loop-next`, `loop-done`.
use mathlib.Core.Path.{◌≡◌}
use lib.ListN.{length}
use Rattle.bench_mapping.specs.Mapping.{start_step, zeros}
use Rattle.laws.proofs.Loops.{Loops}
use Prim.Native.Nat.{◌-◌}
use Rattle.bench_mapping.proofs.start_of.Given as goal

abbrev pub invariant-loop-k : goal.invariant-loop-k
invariant-loop-k l = (128 ≡ length l.start) × Loops (start_step l.file) l.m (zeros 128) l.k l.start
