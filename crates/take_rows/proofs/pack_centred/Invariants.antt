-- `take_rows::pack_centred` meets its contract: i rows are packed (`Packs`); the library fills what follows. Assumes nothing.
use Rattle.take_rows.proofs.Packing.{Packs}
use Rattle.take_rows.specs.Rows.{centred_left}
use Rattle.laws.specs.Joined.{each}
use Rattle.laws.specs.Area.{num}
use lib.ListN.{length}
use Rattle.take_rows.proofs.pack_centred.Given as goal

abbrev pub invariant-loop-i : goal.invariant-loop-i
invariant-loop-i l = Packs (λ t. each (λ d. centred_left l.keep l.c l.initial.positions (num l.keep t) d) l.c) l.c (length l.keep) l.initial.positions l.i l.positions
