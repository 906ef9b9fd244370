-- `replay_scatter::cases` meets its contract: each turn leads on.
use Rattle.std.proofs.Common.{◌-◌}
use Rattle.replay_scatter.proofs.cases.Given as goal

abbrev pub decreases-loop-a : goal.decreases-loop-a
decreases-loop-a l = l.words - l.a
