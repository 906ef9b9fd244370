-- `run_units::row_unit` meets its contract: from what its calls promise.
use Rattle.run_units.specs.Units.{row_unit}
use borrow.Author.Tests.{lt-ltb, le-ltb}
use Rattle.run_units.proofs.row_unit.Goals as goal

pub returns-then-r-s : goal.returns-then-r-s
unfolding row_unit
returns-then-r-s c =
    rw (lt-ltb _ _ c.if-r-s.true) c.total_row.ensures

pub returns : goal.returns
unfolding row_unit
returns c =
    rw (le-ltb _ _ c.if-r-s.false) (rw c.exaggeration.ensures at c.gradient_row.ensures)
