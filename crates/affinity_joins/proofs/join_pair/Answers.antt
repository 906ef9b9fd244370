-- `affinity::exact::join_pair` meets its contract: both places are read before either is written. Assumes nothing.
use mathlib.Core.Path.{refl}
use Rattle.affinity_joins.proofs.join_pair.Goals as goal

pub returns : goal.returns
returns c =
    refl
