-- `little::value` meets its contract: from what its calls promise.
use Rattle.little.specs.Little.{value_at}
use Rattle.little.proofs.value.Goals as goal

pub returns : goal.returns
unfolding value_at
returns c =
    rw (c.value_of.ensures, c.word.ensures)
