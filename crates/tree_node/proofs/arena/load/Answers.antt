-- `tree_node::arena::load` meets its contract: by `nodes-at`.
use mathlib.Core.Path.{ap, ◌∙◌}
use Rattle.std.proofs.lemmas.List.{get_or_default}
use Rattle.tree_node.specs.Arena.{node_of}
use Rattle.tree_node.proofs.Told.{nodes-at}
use Rattle.tree_node.proofs.arena.load.Goals as goal

pub returns : goal.returns
returns c = c.from.ensures ∙ ap node_of (get_or_default c.args.cells.now c.args.i _ _ c.requires) ∙ nodes-at c.args.cells.now c.args.i
