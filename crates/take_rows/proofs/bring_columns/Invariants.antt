-- `take_rows::bring_columns` meets its contract: the loop keeps `Brings`; by `brings-start`, `brings-next`, `brings-at`, `brings-done`.
use Rattle.take_rows.proofs.Packing.{Brings}
use Rattle.laws.specs.Area.{num}
use lib.ListN.{length}
use Prim.Native.Nat.{◌+◌}
use Rattle.take_rows.proofs.bring_columns.Given as goal

abbrev pub invariant-loop-j : goal.invariant-loop-j
invariant-loop-j l = Brings (λ t. num l.initial.area (l.from + num l.keep t)) l.to (length l.keep) l.initial.area l.j l.area
