-- `run_finish::pace` meets its contract: from what its calls promise.
use mathlib.Core.Path.{sym, ◌∙◌}
use Rattle.run_finish.specs.Finish.{pace_of}
use Rattle.run_finish.proofs.pace.Goals as goal

pub returns-then-is_tree : goal.returns-then-is_tree
unfolding pace_of
returns-then-is_tree c =
    rw ((sym c.is_tree.ensures ∙ c.if-is_tree.true), c.normaliser-z.ensures, c.momentum.ensures)

pub returns : goal.returns
unfolding pace_of
returns c =
    rw ((sym c.is_tree.ensures ∙ c.if-is_tree.false), c.momentum-2.ensures)
