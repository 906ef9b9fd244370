-- `replay::areas::copy_words` meets its contract: the loop keeps `Loops`; by `loop-start`, `loop-next`, `loop-done`.
use Rattle.laws.proofs.Loops.{Loops}
use Rattle.laws.specs.Area.{bits}
use Rattle.std.proofs.Common.{◌≡◌, length, set}
use Rattle.replay.specs.Replay.{word_of}
use Rattle.replay.specs.Areas.{onward}
use Rattle.replay.proofs.areas.copy_words.Given as goal

abbrev pub invariant-loop-i : goal.invariant-loop-i
invariant-loop-i l = (length l.area ≡ length l.initial.area) × Loops (λ i x. set x i (bits (word_of l.list (onward l.a i)))) l.m l.initial.area l.i l.area
