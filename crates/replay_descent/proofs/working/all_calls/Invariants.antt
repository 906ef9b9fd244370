-- `replay_descent::working::all_calls` meets its contract: the loop keeps what has been done equal to its part of the whole.
use Rattle.std.proofs.Common.{◌-◌, ◌≤◌}
use Rattle.replay_descent.proofs.working.all_calls.Given as goal

abbrev pub invariant-loop-k : goal.invariant-loop-k
invariant-loop-k l = l.k ≤ l.calls
