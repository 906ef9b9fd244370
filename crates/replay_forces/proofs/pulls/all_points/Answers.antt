use borrow.Author.Rules.{rules}
use mathlib.Core.Path.{sym, ◌∙◌}
use Rattle.replay_arena.proofs.Told.{fine-walks}
use Rattle.replay_forces.proofs.pulls.all_points.Goals as goal

pub loop-i-init : goal.loop-i-init
loop-i-init c = (
  (search rules),
  (search rules),
  fine-walks 512 c.args.used c.args.map.n c.args.map.c c.args.cells.now (search rules)
      (sym c.fine_in.ensures ∙ c.if-not-fine_in.false),
)
