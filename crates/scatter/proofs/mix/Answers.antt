-- `scatter::mix` meets its contract. Assumes nothing.
use Rattle.scatter.specs.Scatter.{mix_of}
use Rattle.scatter.proofs.mix.Goals as goal

pub returns : goal.returns
unfolding mix_of
returns c =
    rw (c.fold.ensures, c.fold-b.ensures, c.fold-a.ensures)
