-- `frame_words::put_starts` meets its contract: the loop keeps `Loops`; by `loop-start`, `loop-next`, `loop-done`.
use Rattle.laws.proofs.Loops.{Loops}
use Rattle.laws.specs.Area.{at}
use lib.Ieee.{binary64, to_bits}
use lib.ListN.{length, set}
use Prim.Native.Nat.{◌+◌, ◌-◌}
use mathlib.Core.Path.{◌≡◌}
use Rattle.frame_words.proofs.put_starts.Given as goal

abbrev pub invariant-loop-k : goal.invariant-loop-k
invariant-loop-k l = (length l.words ≡ length l.initial.words) × Loops (λ k x. set x (9 + k) (to_bits binary64 (at l.f.starts k))) 2 l.initial.words l.k l.words
