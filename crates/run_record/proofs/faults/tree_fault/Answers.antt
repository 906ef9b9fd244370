-- `run_record::faults::tree_fault` meets its contract: from what its calls promise.
use Rattle.run_record.specs.Record.{angle_fault}
use mathlib.Core.Path.{sym, ◌∙◌}
use borrow.Author.Tests.{lt-ltb, le-ltb}
use Rattle.run_record.proofs.faults.tree_fault.Goals as goal

pub returns-then-not-is_tree : goal.returns-then-not-is_tree
unfolding angle_fault
returns-then-not-is_tree c = simp (sym c.is_tree.ensures ∙ c.if-not-is_tree.true)

pub returns-then-not-is_inside : goal.returns-then-not-is_inside
unfolding angle_fault
returns-then-not-is_inside c =
    simp (sym c.is_tree.ensures ∙ c.if-not-is_tree.false, sym c.is_inside.ensures ∙ c.if-not-is_inside.true)

pub returns-then-c-gt-MOST_AXES : goal.returns-then-c-gt-MOST_AXES
unfolding angle_fault
returns-then-c-gt-MOST_AXES c =
    simp (sym c.is_tree.ensures ∙ c.if-not-is_tree.false, sym c.is_inside.ensures ∙ c.if-not-is_inside.false, lt-ltb _ _ c.if-c-gt-MOST_AXES.true)

pub returns : goal.returns
unfolding angle_fault
returns c =
    simp (sym c.is_tree.ensures ∙ c.if-not-is_tree.false, sym c.is_inside.ensures ∙ c.if-not-is_inside.false, le-ltb _ _ c.if-c-gt-MOST_AXES.false)
