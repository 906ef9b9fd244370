-- `take_gone::gone_fine` meets its contract: the loop keeps what has been done equal to its part of the whole; by `every-none`, `every-next`, `every-no`, `every-done`.
use lib.ListN.{length}
use Rattle.take_gone.specs.Gone.{gone_fine_at}
use Rattle.laws.specs.Loops.{every}
use mathlib.Core.Bool.{true}
use mathlib.Core.Path.{◌≡◌}
use Prim.Native.Nat.{◌≤◌}
use Rattle.take_gone.proofs.gone_fine.Given as goal

abbrev pub invariant-loop-t : goal.invariant-loop-t
invariant-loop-t l = (every (gone_fine_at l.gone l.n) l.t ≡ true) × (l.t ≤ length l.gone)
