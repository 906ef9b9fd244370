use Rattle.std.proofs.Common.{arith, rules}
use Rattle.replay_affinity.proofs.joins.read_links.Goals as goal

pub loop-p-preserved : goal.loop-p-preserved
loop-p-preserved c =
    (search rules, search rules, omega arith)
