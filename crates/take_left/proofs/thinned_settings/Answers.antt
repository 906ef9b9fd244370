-- `take_left::thinned_settings` meets its contract: each need follows from its own premises.
use Rattle.take_left.specs.Outlook.{thinned}
use mathlib.Core.Path.{refl}
use Rattle.take_left.proofs.thinned_settings.Goals as goal

pub returns : goal.returns
unfolding thinned
returns c =
    refl
