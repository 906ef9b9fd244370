-- `replay::areas::mark_words` meets its contract: the loop keeps `Loops`; by `loop-start`, `loop-next`, `loop-done`.
use Rattle.laws.proofs.Loops.{Loops}
use Rattle.std.proofs.Common.{◌≡◌, ◌+◌, ◌%◌, length, set}
use Rattle.replay.proofs.areas.mark_words.Given as goal

abbrev pub invariant-loop-i : goal.invariant-loop-i
invariant-loop-i l = (length l.area ≡ length l.initial.area) × Loops (λ i x. set x i (0x40000000 + i % 0x40000000)) (length l.initial.area) l.initial.area l.i l.area
