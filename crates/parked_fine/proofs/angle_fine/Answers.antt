-- `parked_fine::angle_fine` meets its contract: from what its calls promise.
use borrow.Author.Tests.{eq-eqb, ne_eqb}
use Rattle.parked_fine.proofs.angle_fine.Goals as goal

pub returns-then-m-eq1 : goal.returns-then-m-eq1
returns-then-m-eq1 c =
    rw (c.is_inside.ensures, c.value_of-x.ensures, eq-eqb _ _ c.if-m-eq1.true)

pub returns : goal.returns
returns c =
    simp (ne_eqb _ _ c.if-m-eq1.false)
