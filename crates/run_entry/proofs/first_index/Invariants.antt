-- `run_entry::first_index` meets its contract: the loop keeps `Seeks`; by `seek-start`, `seek-next`, `seek_stop`, `seek-done`.
use mathlib.Core.Bool.{not}
use Rattle.laws.proofs.First.{Seeks}
use Rattle.run_entry.specs.Entry.{index_fine}
use Rattle.run_entry.proofs.first_index.Given as goal

abbrev pub invariant-loop-i : goal.invariant-loop-i
invariant-loop-i l = Seeks (λ j. not (index_fine l.indices l.n j)) l.count l.i
