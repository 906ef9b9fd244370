-- `bench_mapping::table_of` meets its contract: the loop keeps `Loops`; by `loop-start`, `loop-next`, `loop-done`.
use mathlib.Core.Path.{◌≡◌}
use lib.ListN.{length}
use Rattle.bench_mapping.specs.Mapping.{feature_step, zeros}
use Rattle.laws.proofs.Loops.{Loops}
use Prim.Native.Nat.{◌-◌}
use Rattle.bench_mapping.proofs.table_of.Given as goal

abbrev pub invariant-loop-k : goal.invariant-loop-k
invariant-loop-k l = (384 ≡ length l.table) × Loops (feature_step l.file) l.m (zeros 384) l.k l.table
