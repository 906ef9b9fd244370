-- `replay_tree::compare::children` meets its contract: by `few-children`, `shl_one`.
use Rattle.tree_node.proofs.Axes.{few-children}
use Rattle.laws.proofs.Numbers.{shl_one}
use Rattle.std.proofs.Common.{arith}
use Rattle.replay_tree.proofs.compare.children.Goals as goal

pub returns-else-first-eq0 : goal.returns-else-first-eq0
returns-else-first-eq0 c =
    rw (shl_one c.args.c (omega arith)) (few-children c.args.c c.requires)
