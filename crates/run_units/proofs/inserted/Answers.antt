-- `run_units::inserted` meets its contract: from what its calls promise.
use Rattle.run_units.specs.Units.{inserted_of}
use Rattle.run_units.proofs.inserted.Goals as goal

pub returns-then-full : goal.returns-then-full
unfolding inserted_of
returns-then-full c =
    rw c.if-full.true

pub returns : goal.returns
unfolding inserted_of
returns c =
    rw (c.if-full.false, c.advanced.ensures)
