-- `parked_fine::most_components` meets its contract: each need follows from its own premises.
use borrow.Author.Tests.{eq-eqb, ne_eqb}
use Rattle.parked_fine.proofs.most_components.Goals as goal

pub returns-then-m-eq1 : goal.returns-then-m-eq1
returns-then-m-eq1 c =
    simp (eq-eqb _ _ c.if-m-eq1.true)

pub returns : goal.returns
returns c =
    simp (ne_eqb _ _ c.if-m-eq1.false)
