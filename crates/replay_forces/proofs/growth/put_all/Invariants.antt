-- `put_all`: its loop ends. Assumes nothing.
use Prim.Native.Nat.{◌≤◌}
use Rattle.replay_forces.proofs.growth.put_all.Given as goal

abbrev pub invariant-loop-j : goal.invariant-loop-j
invariant-loop-j l = l.j ≤ l.n
