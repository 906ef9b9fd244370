-- `run_entry::areas_fit` meets its contract: from what its calls promise.
use mathlib.Core.Path.{sym, ◌∙◌}
use borrow.Author.Tests.{le-leb, lt-leb}
use Rattle.run_entry.specs.Entry.{areas_fit}
use Rattle.run_entry.proofs.areas_fit.Goals as goal
use Rattle.run_entry.proofs.areas_fit.Goals.{then-l-z-via-then-l-z, then-l-z-via-else-l-z+then-l-z-2}
use Rattle.run_entry.proofs.areas_fit.Goals.{then-l-z-via-else-l-z+else-l-z-2+then-l-z-3, then-l-z-via-else-l-z+else-l-z-2+else-l-z-3+then-l-z-4}

pub returns-then-l-z : goal.returns-then-l-z
unfolding areas_fit
returns-then-l-z c = elim c.then-l-z.branch [
  | then-l-z-via-then-l-z w ↦ rw (lt-leb _ _ (rw c.sizes_of-z.ensures at w.if-l-z.true))
  | then-l-z-via-else-l-z+then-l-z-2 w ↦ rw (
    le-leb _ _ (rw c.sizes_of-z.ensures at w.if-l-z.false),
    lt-leb _ _ (rw c.sizes_of-z.ensures at w.if-l-z-2.true),
  )
  | then-l-z-via-else-l-z+else-l-z-2+then-l-z-3 w ↦ rw (
    le-leb _ _ (rw c.sizes_of-z.ensures at w.if-l-z.false),
    le-leb _ _ (rw c.sizes_of-z.ensures at w.if-l-z-2.false),
    lt-leb _ _ (rw c.sizes_of-z.ensures at w.if-l-z-3.true),
  )
  | then-l-z-via-else-l-z+else-l-z-2+else-l-z-3+then-l-z-4 w ↦ rw (
    le-leb _ _ (rw c.sizes_of-z.ensures at w.if-l-z.false),
    le-leb _ _ (rw c.sizes_of-z.ensures at w.if-l-z-2.false),
    le-leb _ _ (rw c.sizes_of-z.ensures at w.if-l-z-3.false),
    lt-leb _ _ (rw c.sizes_of-z.ensures at w.if-l-z-4.true),
  )
]

pub returns-then-is_tree : goal.returns-then-is_tree
unfolding areas_fit
returns-then-is_tree c = rw (
  le-leb _ _ (rw c.sizes_of-z.ensures at c.if-l-z.false),
  le-leb _ _ (rw c.sizes_of-z.ensures at c.if-l-z-2.false),
  le-leb _ _ (rw c.sizes_of-z.ensures at c.if-l-z-3.false),
  le-leb _ _ (rw c.sizes_of-z.ensures at c.if-l-z-4.false),
  sym c.is_tree.ensures ∙ c.if-is_tree.true,
  c.tree_fits.ensures,
  c.sizes_of-z.ensures,
)

pub returns : goal.returns
unfolding areas_fit
returns c = rw (
  le-leb _ _ (rw c.sizes_of-z.ensures at c.if-l-z.false),
  le-leb _ _ (rw c.sizes_of-z.ensures at c.if-l-z-2.false),
  le-leb _ _ (rw c.sizes_of-z.ensures at c.if-l-z-3.false),
  le-leb _ _ (rw c.sizes_of-z.ensures at c.if-l-z-4.false),
  sym c.is_tree.ensures ∙ c.if-is_tree.false,
  c.sizes_of-z.ensures,
)
