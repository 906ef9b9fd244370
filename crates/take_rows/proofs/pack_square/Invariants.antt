-- `take_rows::pack_square` meets its contract: i rows are packed (`Packs`); the library fills what follows. Assumes nothing.
use Rattle.take_rows.proofs.Packing.{Packs}
use Rattle.laws.specs.Joined.{each}
use Rattle.laws.specs.Area.{num}
use lib.ListN.{length}
use Prim.Native.Nat.{◌+◌, ◌*◌}
use Rattle.take_rows.proofs.pack_square.Given as goal

abbrev pub invariant-loop-i : goal.invariant-loop-i
invariant-loop-i l = Packs (λ t. each (λ j. num l.initial.area (num l.keep t * l.n + num l.keep j)) (length l.keep)) (length l.keep) (length l.keep) l.initial.area l.i l.area
