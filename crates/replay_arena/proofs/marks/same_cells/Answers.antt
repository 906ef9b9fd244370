-- `replay_arena::marks::same_cells` meets its contract: by the laws of a test of all.
use mathlib.Core.Path.{sym, ◌∙◌}
use Rattle.laws.proofs.Every.{every-none, every-next, every-no}
use Rattle.replay_arena.proofs.marks.same_cells.Goals as goal

pub loop-i-init : goal.loop-i-init
loop-i-init c = every-none _

pub returns-then-not-same_cell : goal.returns-then-not-same_cell
returns-then-not-same_cell c =
    sym (every-no _ 512 _ c.loop-i-test.true (sym c.same_cell.ensures ∙ c.if-not-same_cell.true))

pub loop-i-preserved : goal.loop-i-preserved
loop-i-preserved c = every-next _ _ c.loop-i.invariant (sym c.same_cell.ensures ∙ c.if-not-same_cell.false)
