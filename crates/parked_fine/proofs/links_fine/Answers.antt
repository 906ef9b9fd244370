-- `parked_fine::links_fine` meets its contract: by `most-links`.
use Rattle.parked_fine.proofs.Laws.{most-links}
use borrow.Author.Tests.{eq-eqb, ne_eqb}
use native.Mathlib.Omega.{arith}
use Rattle.parked_fine.proofs.links_fine.Goals as goal

pub neighbours-requires : goal.neighbours-requires
neighbours-requires c =
    rw c.value_of-x.ensures (c.requires.1, c.requires.2, c.requires.0)

pub overflow_mul-result-then-m-eq1 : goal.overflow_mul-result-then-m-eq1
overflow_mul-result-then-m-eq1 c =
    rw c.neighbours.ensures (omega (arith, most-links c.value_of-x.result c.args.n c.requires.0))

pub returns-then-m-eq1 : goal.returns-then-m-eq1
returns-then-m-eq1 c =
    rw (c.neighbours.ensures, c.value_of-x.ensures, eq-eqb _ _ c.if-m-eq1.true)

pub returns : goal.returns
returns c =
    simp (ne_eqb _ _ c.if-m-eq1.false)
