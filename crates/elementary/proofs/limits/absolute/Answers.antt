-- `elementary::limits::absolute` meets its contract: std's value without its sign is the same.
use Rattle.std.proofs.Common.{◌∙◌}
use Rattle.elementary.proofs.Signs.{abs-signless}
use Rattle.elementary.proofs.limits.absolute.Goals as goal

pub returns : goal.returns
returns c =
    c.abs.ensures.value ∙ abs-signless c.args.x
