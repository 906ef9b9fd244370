-- `step_gains::new_element` meets its contract: from what its calls promise.
use mathlib.Core.Path.{refl}
use Rattle.step_gains.specs.Gains.{new_of}
use Rattle.step_gains.proofs.new_element.Goals as goal

pub returns : goal.returns
unfolding new_of
returns c =
    rw (c.new_increment-v.ensures, c.new_gain-g.ensures) refl
