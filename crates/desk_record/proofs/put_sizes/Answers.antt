-- `desk_record::put_sizes` meets its contract: by `nodes-few`.
use Rattle.desk_record.proofs.Laws.{nodes-few}
use Rattle.desk_record.specs.Records.{lengths_put}
use Rattle.run_entry.proofs.Laws.{axes}
use lib.ListN.{length-set}
use mathlib.Core.Path.{sym, ◌∙◌}
use native.Mathlib.Omega.{arith}
use Rattle.desk_record.proofs.put_sizes.Goals as goal

pub sizes_of-z-requires : goal.sizes_of-z-requires
sizes_of-z-requires c =
    c.requires.1

pub bounds-words-4 : goal.bounds-words-4
bounds-words-4 c =
    simp length-set (omega (arith, c.requires.0))

pub bounds-words-5 : goal.bounds-words-5
bounds-words-5 c =
    simp length-set (omega (arith, c.requires.0))

pub bounds-words-1 : goal.bounds-words-1
bounds-words-1 c =
    simp length-set (omega (arith, c.requires.0))

pub bounds-words-2 : goal.bounds-words-2
bounds-words-2 c =
    simp length-set (omega (arith, c.requires.0))

pub overflow_add-words : goal.overflow_add-words
overflow_add-words c =
    omega (arith, c.requires.1.n-most)

pub bounds-words-3 : goal.bounds-words-3
bounds-words-3 c =
    simp length-set (omega (arith, c.requires.0))

pub corners-requires : goal.corners-requires
corners-requires c =
    axes _ c.requires.1 (sym c.is_tree.ensures ∙ c.if-is_tree.true)

pub overflow_mul-words : goal.overflow_mul-words
overflow_mul-words c =
    rw c.corners.ensures (omega (arith, (nodes-few _ c.requires.1 (sym c.is_tree.ensures ∙ c.if-is_tree.true)).0))

pub overflow_sub-words : goal.overflow_sub-words
overflow_sub-words c =
    omega (arith, c.requires.1.n-some)

pub overflow_mul-words-then-is_tree : goal.overflow_mul-words-then-is_tree
overflow_mul-words-then-is_tree c =
    rw c.corners.ensures (omega (arith, (nodes-few _ c.requires.1 (sym c.is_tree.ensures ∙ c.if-is_tree.true)).1))

pub overflow_add-words-then-is_tree : goal.overflow_add-words-then-is_tree
overflow_add-words-then-is_tree c =
    rw c.corners.ensures (omega (arith, (nodes-few _ c.requires.1 (sym c.is_tree.ensures ∙ c.if-is_tree.true)).1))

pub bounds-words-6 : goal.bounds-words-6
bounds-words-6 c =
    simp length-set (omega (arith, c.requires.0))

pub shape_of-words-then-is_tree : goal.shape_of-words-then-is_tree
shape_of-words-then-is_tree c =
    simp length-set

pub returns-then-is_tree : goal.returns-then-is_tree
unfolding lengths_put
returns-then-is_tree c =
    rw ((sym c.is_tree.ensures ∙ c.if-is_tree.true), c.corners.ensures, c.sizes_of-z.ensures)

pub bounds-words-1-2 : goal.bounds-words-1-2
bounds-words-1-2 c =
    simp length-set (omega (arith, c.requires.0))

pub bounds-words-2-2 : goal.bounds-words-2-2
bounds-words-2-2 c =
    simp length-set (omega (arith, c.requires.0))

pub bounds-words-3-2 : goal.bounds-words-3-2
bounds-words-3-2 c =
    simp length-set (omega (arith, c.requires.0))

pub bounds-words-6-2 : goal.bounds-words-6-2
bounds-words-6-2 c =
    simp length-set (omega (arith, c.requires.0))

pub shape_of-words : goal.shape_of-words
shape_of-words c =
    simp length-set

pub returns : goal.returns
unfolding lengths_put
returns c =
    rw ((sym c.is_tree.ensures ∙ c.if-is_tree.false), c.sizes_of-z.ensures)
