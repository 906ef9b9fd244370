-- `frame_words::put_features` meets its contract: the loop keeps `Loops`; by `loop-start`, `loop-next`, `loop-done`.
use Rattle.laws.proofs.Loops.{Loops}
use Rattle.laws.specs.Area.{at}
use lib.Ieee.{binary64, to_bits}
use lib.ListN.{length, set}
use Prim.Native.Nat.{◌+◌, ◌-◌}
use mathlib.Core.Path.{◌≡◌}
use Rattle.frame_words.proofs.put_features.Given as goal

abbrev pub invariant-loop-k : goal.invariant-loop-k
invariant-loop-k l = (length l.words ≡ length l.initial.words) × Loops (λ k x. set x (3 + k) (to_bits binary64 (at l.f.features k))) 6 l.initial.words l.k l.words
