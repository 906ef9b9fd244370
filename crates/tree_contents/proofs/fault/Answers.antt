-- `tree_contents::fault` meets its contract: from what its calls promise.
use mathlib.Core.Path.{sym, ◌∙◌}
use borrow.Author.Tests.{lt-ltb, le-ltb}
use Rattle.tree_contents.specs.Contents.{node_fault}
use Rattle.tree_contents.proofs.fault.Goals as goal

pub returns-then-v-n : goal.returns-then-v-n
unfolding node_fault
returns-then-v-n c =
    rw (lt-ltb _ _ c.if-v-n.true)

pub returns-then-point_ok : goal.returns-then-point_ok
unfolding node_fault
returns-then-point_ok c =
    rw (le-ltb _ _ c.if-v-n.false, sym c.point_ok.ensures ∙ c.if-point_ok.true)

pub returns : goal.returns
unfolding node_fault
returns c =
    rw (le-ltb _ _ c.if-v-n.false, sym c.point_ok.ensures ∙ c.if-point_ok.false)
