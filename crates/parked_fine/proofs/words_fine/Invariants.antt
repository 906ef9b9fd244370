-- `parked_fine::words_fine` meets its contract: the loop keeps what has been done equal to its part of the whole; by `every-none`, `every-next`, `every-no`, `every-done`.
use Rattle.parked.specs.Fine.{word_fine}
use Rattle.little.specs.Little.{word_in}
use Rattle.laws.specs.Loops.{every}
use mathlib.Core.Path.{◌≡◌}
use mathlib.Core.Bool.{true}
use Prim.Native.Nat.{◌+◌, ◌*◌, ◌≤◌, ◌-◌}
use Rattle.parked_fine.proofs.words_fine.Given as goal

abbrev pub invariant-loop-k : goal.invariant-loop-k
invariant-loop-k l = (l.k ≤ 4) × (every (λ j. word_fine (word_in l.file) l.l (4 * l.q + j)) l.k ≡ true)
