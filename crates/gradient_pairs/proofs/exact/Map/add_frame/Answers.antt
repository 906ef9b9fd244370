-- `gradient_pairs::exact::Map::add_frame` meets its contract: from what its calls promise.
use Rattle.gradient_pairs.specs.Exact.{pull_by}
use Rattle.gradient_pairs.proofs.exact.Map.add_frame.Goals as goal

pub returns : goal.returns
unfolding pull_by
returns c =
    rw c.add_along.ensures
