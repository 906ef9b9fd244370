-- The contents rule: what a work call asks of the nodes in use, and the lowest node that breaks it. Definitions only.
use Rattle.std.specs.Prelude.{Bool, true, false, cond, not, ◌||◌, ℕ, length, eqb, ltb, Result, Ok, Err}
use Rattle.laws.specs.Loops.{first}
use Rattle.tree_node.specs.Arena.{node_at, nameable}
use Rattle.tree_contents.specs.declared.Unsound.{Unsound}
use Rattle.tree_contents.specs.declared.Unsound.TheVariants.{Used}
use Rattle.tree_contents.specs.Contents.{node_ok, node_fault}
use Rattle.tree.specs.Insert.{Tree}

-- node i of a tree over n points breaks the rule
abbrev pub faulty : ℕ → ℕ → Tree → ℕ → Bool
faulty n c t i = not (node_ok n n c t.used i (node_at t.nodes i))

-- the number in use is 0 or above the nodes that a word can name; else the lowest faulty node, if any, with its kind of fault
unfoldable pub contents_of : ℕ → ℕ → Tree → Result Unit Unsound
unfolding node_fault nameable
contents_of n c t =
    cond (eqb t.used 0 || ltb (nameable (length t.nodes)) t.used) (Err Used)
    (cond (ltb (first (faulty n c t) t.used) t.used)
    (Err (node_fault n (first (faulty n c t) t.used) (node_at t.nodes (first (faulty n c t) t.used))))
    (Ok tt))

abbrev pub contents_fine : Result Unit Unsound → Bool
contents_fine (Ok u) = true
contents_fine (Err f) = false
