-- A made child's leaf has a word. Assumes nothing.
use mathlib.Core.List.{List}
use Prim.Native.Nat.{ℕ, suc, ◌<◌}
use native.Mathlib.Omega.{arith}
use native.Mathlib.Decide.{ℕ_discrete}
use lib.Ieee.{Float}
use borrow.Author.Tests.{eq-eqb, ne_eqb}
use Rattle.laws.specs.Domain.{most_word}
use Rattle.tree_node.specs.declared.Node.{Node}
use Rattle.tree_node.specs.Arena.{leaf_word}
use Rattle.tree_children.specs.Children.{child_index}
use Rattle.tree_turns.specs.Turns.{child_of}

pub child-word : (c : ℕ) (v : Node) (o : ℕ) (q : List Float) (b : ℕ) → o < most_word → leaf_word (child_of c v o q b).leaf < suc most_word
unfolding child_of
child-word c v o q b h = elim (ℕ_discrete b (child_index c v.centre q)) [ yes e ↦ rw (eq-eqb _ _ e) (omega arith) | no n ↦ rw (ne_eqb _ _ n) (omega arith) ]
