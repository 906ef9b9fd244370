-- The force walk may go through a tree of that shape: all that it asks of an arena holds there. Assumes nothing.
use mathlib.Core.Path.{◌≡◌}
use mathlib.Core.List.{List}
use mathlib.Core.Bool.{true}
use Prim.Native.Nat.{ℕ, suc}
use Rattle.laws.specs.Domain.{most_word}
use Rattle.tree_node.specs.declared.Node.{Node}
use Rattle.tree_walk.specs.Repel.{Blocks}
use Rattle.tree.specs.Insert.{Tree, tree, tree_ok, shaped}
use Rattle.tree.proofs.Inserting.{tree-facts}

-- whatever the points and counts may be
pub blocks-in : (n c m : ℕ) (t : Tree) → tree_ok n m c t ≡ true → Blocks t.used c t.nodes
blocks-in n c m t e i l z = (tree-facts n c m t e i l).above z

pub blocks-of : (used c : ℕ) (ns : List Node) → shaped c (tree used ns) ≡ true → Blocks used c ns
blocks-of used c ns e = blocks-in (suc most_word) c most_word (tree used ns) e
