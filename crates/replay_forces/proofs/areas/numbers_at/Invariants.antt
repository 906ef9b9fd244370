-- `replay_forces::areas::numbers_at` meets its contract: the loop keeps what has been done equal to its part of the whole.
use mathlib.Core.Path.{◌≡◌}
use lib.ListN.{length}
use Prim.Native.Nat.{◌≤◌}
use Rattle.replay_forces.proofs.areas.numbers_at.Given as goal

abbrev pub invariant-loop-i : goal.invariant-loop-i
invariant-loop-i l = (length l.numbers ≡ 401) × (l.i ≤ l.m)
