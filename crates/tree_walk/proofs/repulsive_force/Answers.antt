-- `tree_walk::repulsive_force` meets its contract: the walk from the root alone is the repulsion.
use mathlib.Core.Path.{refl, ◌∙◌}
use Rattle.tree_walk.proofs.Walked.{from-root}
use Rattle.tree_walk.proofs.repulsive_force.Goals as goal

pub returns : goal.returns
returns c = c.walk.ensures ∙ from-root c.args.used c.args.eye c.args.cells.now _ refl
