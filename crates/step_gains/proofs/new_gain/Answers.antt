-- `step_gains::new_gain` meets its contract: from what its calls promise.
use mathlib.Core.Path.{◌∙◌, ap}
use Rattle.step_gains.specs.Gains.{gain_of, floored}
use Rattle.step_gains.proofs.new_gain.Goals as goal

pub returns : goal.returns
unfolding gain_of
returns c =
    c.floored_gain.ensures ∙ ap floored c.changed_gain.ensures
