use mathlib.Core.Path.{sym, ◌∙◌}
use Rattle.take_lists.proofs.Counting.{sees-start, sees-pass, sees-next, sees-done}
use Rattle.take_lists.proofs.list_left.Goals as goal
use Rattle.take_lists.proofs.list_left.Goals.{then-not-is_among, else-not-is_among}

pub loop-t-init : goal.loop-t-init
loop-t-init c =
    sees-start

pub loop-t-preserved : goal.loop-t-preserved
loop-t-preserved c = elim c.if-not-is_among.branch [
  | then-not-is_among w ↦ rw w.c-is (sees-next c.loop-t-test.true c.loop-t.invariant (sym w.if-not-is_among.true ∙ c.is_among.ensures))
  | else-not-is_among w ↦ rw w.c-is (sees-pass c.loop-t-test.true c.loop-t.invariant (sym w.if-not-is_among.false ∙ c.is_among.ensures))
]
