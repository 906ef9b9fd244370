-- `bench_cases::map_cases` ends, since each case leads on.
use Rattle.std.proofs.Common.{◌-◌, ◌≤◌}
use Rattle.bench_cases.proofs.map_cases.Given as goal

abbrev pub invariant-loop-a : goal.invariant-loop-a
invariant-loop-a g l = 0 ≤ l.a

abbrev pub decreases-loop-a : goal.decreases-loop-a
decreases-loop-a g l = l.words - l.a
