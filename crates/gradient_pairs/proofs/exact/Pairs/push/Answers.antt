-- `gradient_pairs::exact::Pairs::push` meets its contract: from what its calls promise.
use Rattle.gradient_pairs.specs.Exact.{push_of}
use Rattle.gradient_pairs.proofs.exact.Pairs.push.Goals as goal

pub returns : goal.returns
unfolding push_of
returns c =
    rw c.unless_above-q.ensures
