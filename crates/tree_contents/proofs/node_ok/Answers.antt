-- `tree_contents::node_ok` meets its contract: from what its calls promise.
use mathlib.Core.Path.{sym, ◌∙◌}
use mathlib.Core.Bool.{true≢false}
use borrow.Author.Tests.{le-leb, lt-leb}
use Rattle.tree_contents.specs.Contents.{node_ok}
use Rattle.tree_contents.proofs.node_ok.Goals as goal
use Rattle.tree_contents.proofs.node_ok.Goals.{then-v-n, else-v-n}

pub returns-then-point_ok : goal.returns-then-point_ok
unfolding node_ok
returns-then-point_ok c =
    elim c.if-v-n.branch [
      | then-v-n w ↦ rw (le-leb _ _ w.if-v-n.true, sym w.point_ok.ensures ∙ sym w.value-is ∙ c.if-point_ok.true) c.block_ok.ensures
      | else-v-n w ↦ absurd (true≢false (sym c.if-point_ok.true ∙ w.value-is ∙ lt-leb _ _ w.if-v-n.false))
    ]

pub returns-else-point_ok : goal.returns-else-point_ok
unfolding node_ok
returns-else-point_ok c =
    elim c.if-v-n.branch [
      | then-v-n w ↦ rw (le-leb _ _ w.if-v-n.true, sym w.point_ok.ensures ∙ sym w.value-is ∙ c.if-point_ok.false) c.if-point_ok.false
      | else-v-n w ↦ rw (lt-leb _ _ w.if-v-n.false) c.if-point_ok.false
    ]
