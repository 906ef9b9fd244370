-- `take_rows::bring_centred` meets its contract: the loop keeps `Brings`; by `brings-start`, `brings-next`, `brings-at`, `brings-done`.
use Rattle.take_rows.proofs.Packing.{Brings}
use Rattle.laws.specs.Area.{at}
use lib.Ieee.{binary64, sub}
use Prim.Native.Nat.{◌+◌}
use Rattle.take_rows.proofs.bring_centred.Given as goal

abbrev pub invariant-loop-d : goal.invariant-loop-d
invariant-loop-d l = Brings (λ j. sub binary64 (at l.initial.area (l.from + j)) (at l.means j)) l.to l.c l.initial.area l.d l.area
