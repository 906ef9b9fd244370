-- Repulsion on a point: rule 4 of the scope paper, over a list of nodes. Definitions only.
use Rattle.std.specs.Prelude.{◌≡◌, List, true, false, ℕ, zero, suc, ◌+◌, ◌^◌, ◌<◌, ◌≤◌, eqb, Float}
use Rattle.laws.specs.Loops.{loop}
use Rattle.laws.specs.Area.{zero64}
use Rattle.tree_node.specs.declared.Node.{Node}
use Rattle.tree_bodies.specs.declared.Acc.{Acc}
use Rattle.tree_node.specs.Node.{zeros3}
use Rattle.tree_node.specs.Arena.{node_at}
use Rattle.tree_bodies.specs.Bodies.{kind_of, body_of}

-- ---- the walk from node i, at most g levels deep, children rising

unfoldable pub walk_of : ℕ → ℕ → ℕ → List Float → Float → List Node → ℕ → Acc → Acc
unfolding kind_of body_of loop
walk_of zero c q p theta2 ns i acc = acc
walk_of (suc g) c q p theta2 ns i acc =
    elim (eqb (kind_of c q p theta2 (node_at ns i)) 0) [
      | true ↦ acc
      | false ↦ elim (eqb (kind_of c q p theta2 (node_at ns i)) 1) [
        | true ↦ body_of c p (node_at ns i) acc
        | false ↦ loop (λ b a. walk_of g c q p theta2 ns ((node_at ns i).first + b) a) (2 ^ c) 0 acc
      ]
    ]

-- the walks from n nodes, one after the other, from node f on
abbrev pub walked_over : ℕ → ℕ → ℕ → List Float → Float → List Node → ℕ → ℕ → Acc → Acc
walked_over used c q p theta2 ns f n acc = loop (λ b a. walk_of used c q p theta2 ns (f + b) a) n 0 acc

-- the children of each used node lie above it, wholly among the used ones: all that the walk asks of an arena
abbrev pub Blocks : ℕ → ℕ → List Node → Type 0
Blocks used c ns = (i : ℕ) → i < used → ((node_at ns i).first ≡ 0 → ⊥) → (i < (node_at ns i).first) × ((node_at ns i).first + 2 ^ c ≤ used)

abbrev pub nothing : Acc
nothing = record { neg = zeros3; sum = zero64 }

-- repulsion on point q with coordinates p, in a tree of `used` nodes
unfoldable pub repelled : ℕ → ℕ → ℕ → List Float → Float → List Node → Acc
unfolding walk_of
repelled used c q p theta2 ns = walk_of used c q p theta2 ns 0 nothing
