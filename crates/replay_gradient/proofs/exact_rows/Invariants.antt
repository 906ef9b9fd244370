-- `replay_gradient::exact_rows` meets its contract: the loop keeps what has been done equal to its part of the whole.
use mathlib.Core.Path.{◌≡◌}
use lib.ListN.{length}
use Prim.Native.Nat.{◌≤◌, ◌-◌}
use Rattle.replay_gradient.proofs.exact_rows.Given as goal

abbrev pub invariant-loop-i : goal.invariant-loop-i
invariant-loop-i l = (length l.forces ≡ length l.initial.forces) × (l.i ≤ l.map.n)

abbrev pub invariant-loop-j : goal.invariant-loop-j
invariant-loop-j l = (length l.forces ≡ length l.initial.forces) × (l.j ≤ l.map.n)
