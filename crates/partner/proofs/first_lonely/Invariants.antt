-- `partner::first_lonely` meets its contract: the loop keeps `Seeks`; by `seek-start`, `seek-next`, `seek_stop`, `seek-done`.
use mathlib.Core.Bool.{not}
use Rattle.laws.proofs.First.{Seeks}
use Rattle.partner.specs.Partner.{mirrored}
use Rattle.partner.proofs.first_lonely.Given as goal

abbrev pub invariant-loop-i : goal.invariant-loop-i
invariant-loop-i l = Seeks (λ i. not (mirrored l.file i)) l.d l.i
