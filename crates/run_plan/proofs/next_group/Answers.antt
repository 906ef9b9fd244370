-- `run_plan::next_group` meets its contract: from what its calls promise.
use mathlib.Core.Path.{sym, ◌∙◌}
use borrow.Author.Tests.{lt-ltb, le-ltb, le-leb, lt-leb}
use Rattle.run_plan.specs.Plan.{group_of}
use Rattle.run_plan.proofs.next_group.Goals as goal

pub returns-then-r-s : goal.returns-then-r-s
unfolding group_of
returns-then-r-s c =
    rw ((sym c.is_tree.ensures ∙ c.if-is_tree.true), le-leb _ _ c.if-r-s.true)

pub returns-then-r-s-2 : goal.returns-then-r-s-2
unfolding group_of
returns-then-r-s-2 c =
    rw ((sym c.is_tree.ensures ∙ c.if-is_tree.true), lt-leb _ _ c.if-r-s.false, le-leb _ _ c.if-r-s-2.true)

pub returns-then-is_tree : goal.returns-then-is_tree
unfolding group_of
returns-then-is_tree c =
    rw ((sym c.is_tree.ensures ∙ c.if-is_tree.true), lt-leb _ _ c.if-r-s.false, lt-leb _ _ c.if-r-s-2.false)

pub returns-then-r-s-3 : goal.returns-then-r-s-3
unfolding group_of
returns-then-r-s-3 c =
    rw ((sym c.is_tree.ensures ∙ c.if-is_tree.false), lt-ltb _ _ c.if-r-s-3.true)

pub returns : goal.returns
unfolding group_of
returns c =
    rw ((sym c.is_tree.ensures ∙ c.if-is_tree.false), le-ltb _ _ c.if-r-s-3.false)
