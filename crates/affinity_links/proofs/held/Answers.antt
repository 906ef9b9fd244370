-- `affinity_links::held` meets its contract, by its test. Assumes nothing.
use Rattle.affinity_links.specs.Links.{held_of}
use borrow.Author.Tests.{eq-eqb, ne_eqb}
use native.Mathlib.Omega.{arith}
use Rattle.affinity_links.proofs.held.Goals as goal

pub returns-then-c-eq0 : goal.returns-then-c-eq0
unfolding held_of
returns-then-c-eq0 c =
    rw (eq-eqb _ _ c.if-c-eq0.true)

pub overflow_add-result-2 : goal.overflow_add-result-2
overflow_add-result-2 c =
    omega (arith, c.requires.2 (omega (arith, c.if-c-eq0.false)))

pub overflow_add-result-3 : goal.overflow_add-result-3
overflow_add-result-3 c =
    omega (arith, c.requires.0, c.requires.2 (omega (arith, c.if-c-eq0.false)))

pub returns : goal.returns
unfolding held_of
returns c =
    rw (ne_eqb _ _ c.if-c-eq0.false)
