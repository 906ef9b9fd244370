-- `tree_turns::child` meets its contract: from what its calls promise.
use Rattle.tree_turns.specs.Turns.{child_of}
use borrow.Author.Tests.{eq-eqb, ne_eqb}
use mathlib.Core.Path.{◌∙◌}
use borrow.Author.Rules.{rules}
use Rattle.tree_turns.proofs.child.Goals as goal

pub returns-then-b-child_index : goal.returns-then-b-child_index
unfolding child_of
returns-then-b-child_index c =
    rw (ne_eqb _ _ (rw c.child_index.ensures at c.if-b-child_index.true)) c.cell-w.ensures

pub absorb-requires : goal.absorb-requires
absorb-requires c =
    rw c.cell-w.ensures (search rules)

pub returns : goal.returns
unfolding child_of
returns c =
    rw (eq-eqb _ _ (rw c.child_index.ensures at c.if-b-child_index.false)) (c.occupy.ensures ∙ rw (c.absorb.ensures, c.cell-w.ensures))
