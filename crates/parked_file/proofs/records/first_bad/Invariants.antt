-- `parked_file::records::first_bad` meets its contract: the loop keeps `Seeks`; by `words-stand`, `due-is`, `seeks-three`, `seek-next`, `seek_stop`, `seek-done`.
use Rattle.parked_file.specs.File.{record_stands, records_due}
use Rattle.laws.proofs.First.{Seeks}
use Prim.Native.Nat.{◌≤◌}
use mathlib.Core.Bool.{not}
use Rattle.parked_file.proofs.records.first_bad.Given as goal

abbrev pub invariant-loop-q : goal.invariant-loop-q
invariant-loop-q l = (3 ≤ l.q) × Seeks (λ k. not (record_stands l.file k)) (records_due l.file) l.q
