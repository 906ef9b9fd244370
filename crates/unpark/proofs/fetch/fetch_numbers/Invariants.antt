-- `unpark::fetch::fetch_numbers` meets its contract: the loop keeps `Fetches`; by `fetches-start`, `fetches-next`, `fetches-done`.
use Rattle.areas.proofs.Fetched.{Fetches}
use Rattle.little.specs.Little.{word_in}
use Prim.Native.Nat.{◌+◌, ◌-◌}
use Rattle.unpark.proofs.fetch.fetch_numbers.Given as goal

abbrev pub invariant-loop-i : goal.invariant-loop-i
invariant-loop-i l = Fetches (λ k. word_in l.file (l.b + k)) l.m l.initial.area l.i l.area
