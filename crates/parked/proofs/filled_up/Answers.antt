-- `parked::filled_up` meets its contract: each need follows from its own premises.
use Rattle.parked.specs.Layout.{filled_up}
use mathlib.Core.Path.{refl}
use native.Mathlib.Omega.{arith}
use Rattle.parked.proofs.filled_up.Goals as goal

pub returns : goal.returns
unfolding filled_up
returns c =
    (refl, omega arith)
