-- `run_entry::first_offset` meets its contract: the loop keeps `Seeks`; by `seek-start`, `seek-next`, `seek_stop`, `seek-done`.
use mathlib.Core.Bool.{not}
use Rattle.laws.proofs.First.{Seeks}
use Rattle.run_entry.specs.Entry.{offset_fine}
use Rattle.run_entry.proofs.first_offset.Given as goal

abbrev pub invariant-loop-i : goal.invariant-loop-i
invariant-loop-i l = Seeks (λ j. not (offset_fine l.offsets l.most j)) l.n l.i
