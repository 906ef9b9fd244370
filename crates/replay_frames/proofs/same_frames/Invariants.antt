-- `replay_frames::same_frames` meets its contract: the loop keeps what has been done equal to its part of the whole.
use Prim.Native.Nat.{◌≤◌, ◌-◌}
use Rattle.replay_frames.proofs.same_frames.Given as goal

abbrev pub invariant-loop-i : goal.invariant-loop-i
invariant-loop-i l = l.i ≤ l.count
