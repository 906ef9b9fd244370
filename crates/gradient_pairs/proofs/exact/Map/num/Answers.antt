-- `gradient_pairs::exact::Map::num` meets its contract: from what its calls promise.
use borrow.Author.Tests.{eq-eqb, ne_eqb}
use Rattle.gradient_pairs.specs.Exact.{num_of}
use Rattle.gradient_pairs.proofs.exact.Map.num.Goals as goal

pub returns-then-i-j : goal.returns-then-i-j
unfolding num_of
returns-then-i-j c =
    rw (eq-eqb _ _ c.if-i-j.true)

pub returns : goal.returns
unfolding num_of
returns c =
    rw (ne_eqb _ _ c.if-i-j.false, c.apart.ensures)
