-- The walk from a node, cell by cell: any number of levels that reaches the last used node gives the same. Assumes nothing.
--     whole-skip, whole-body, whole_open      what a node is to the eye, and what the walk from it gives then
use mathlib.Core.Path.{◌≡◌, refl, sym, ◌∙◌}
use mathlib.Core.List.{List}
use mathlib.Core.Bool.{Bool, true, false, cond, ◌&&◌}
use Prim.Native.Nat.{ℕ, zero, suc, ◌+◌, ◌^◌, ◌<◌, ◌≤◌}
use native.Mathlib.Omega.{arith}
use native.Mathlib.Decide.{ℕ_discrete}
use lib.Dec.{eqb}
use lib.Ieee.{Float}
use borrow.Author.Tests.{eq-eqb, ne_eqb}
use Rattle.laws.specs.Loops.{loop}
use Rattle.laws.proofs.Loops.{loop-same}
use Rattle.tree_node.specs.declared.Node.{Node}
use Rattle.tree_bodies.specs.declared.Acc.{Acc}
use Rattle.std.specs.declared.option.Option.{Option}
use Rattle.std.specs.declared.option.Option.TheVariants.{None, Some}
use Rattle.tree_node.specs.Arena.{node_at}
use Rattle.tree_bodies.specs.Bodies.{leaf_kind, kind_of, body_of}
use Rattle.tree_walk.specs.Repel.{walk_of, walked_over, Blocks}

abbrev pick : Bool → ℕ
pick b = cond b 0 1

pick_small : (b : Bool) → (pick b ≡ 0 → ⊥) → (pick b ≡ 1 → ⊥) → ⊥
pick_small true f g = f refl
pick_small false f g = g refl

leaf-small : (q n : ℕ) (l : Option ℕ) → (leaf_kind q n l ≡ 0 → ⊥) → (leaf_kind q n l ≡ 1 → ⊥) → ⊥
leaf-small q n None f g = g refl
leaf-small q n (Some o) f g = pick_small (eqb o q && eqb n 1) f g

-- an opened node has children
pub opened : (c q : ℕ) (p : List Float) (theta2 : Float) (v : Node) (k : ℕ) → k ≡ kind_of c q p theta2 v → (k ≡ 0 → ⊥) → (k ≡ 1 → ⊥) → v.first ≡ 0 → ⊥
unfolding kind_of
opened c q p theta2 v k x h₀ h₁ z = go (eqb v.count 0) (rw (eq-eqb v.first 0 z) at x)
  where
    go : (b : Bool) → k ≡ cond b 0 (leaf_kind q v.count v.leaf) → ⊥
    go true y = h₀ y
    go false y = leaf-small q v.count v.leaf (λ w. h₀ (y ∙ w)) (λ w. h₁ (y ∙ w))

pub nowhere : (i used : ℕ) → i < used → used ≤ i + 0 → ⊥
nowhere i used l m = omega arith

module _ (c q : ℕ) (p : List Float) (theta2 : Float) (ns : List Node) where
  abbrev pub turn_kind : ℕ → ℕ
  turn_kind i = kind_of c q p theta2 (node_at ns i)

  pub skips : (g i : ℕ) (a : Acc) → turn_kind i ≡ 0 → walk_of (suc g) c q p theta2 ns i a ≡ a
  unfolding walk_of
  skips g i a k = rw (k, walk_of)

  pub bodies : (g i : ℕ) (a : Acc) → turn_kind i ≡ 1 → walk_of (suc g) c q p theta2 ns i a ≡ body_of c p (node_at ns i) a
  unfolding walk_of
  bodies g i a k = rw (k, walk_of) (rw k)

  pub opens : (g i : ℕ) (a : Acc) → (turn_kind i ≡ 0 → ⊥) → (turn_kind i ≡ 1 → ⊥) → walk_of (suc g) c q p theta2 ns i a ≡ loop
      (λ b a. walk_of g c q p theta2 ns ((node_at ns i).first + b) a) (2 ^ c) 0 a
  unfolding walk_of
  opens g i a h₀ h₁ = rw (ne_eqb (turn_kind i) 0 h₀, walk_of) (rw (ne_eqb (turn_kind i) 1 h₁))

  module _ (used : ℕ) (ok : Blocks used c ns) where
    pub block : (i : ℕ) → i < used → (turn_kind i ≡ 0 → ⊥) → (turn_kind i ≡ 1 → ⊥) → (i < (node_at ns i).first) × ((node_at ns i).first + 2 ^ c ≤ used)
    block i l h₀ h₁ = ok i l (opened c q p theta2 (node_at ns i) (turn_kind i) refl h₀ h₁)

    enough : (g h i : ℕ) (a : Acc) → i < used → used ≤ i + g → used ≤ i + h → walk_of g c q p theta2 ns i a ≡ walk_of h c q p theta2 ns i a
    enough zero h i a l m n = absurd (nowhere i used l m)
    enough (suc g) zero i a l m n = absurd (nowhere i used l n)
    enough (suc g) (suc h) i a l m n =
        elim (ℕ_discrete (turn_kind i) 0) [
          | yes e ↦ skips g i a e ∙ sym (skips h i a e)
          | no h₀ ↦ elim (ℕ_discrete (turn_kind i) 1) [
            | yes e ↦ bodies g i a e ∙ sym (bodies h i a e)
            | no h₁ ↦ opens g i a h₀ h₁ ∙ loop-same (λ b a. walk_of g c q p theta2 ns ((node_at ns i).first + b) a) (λ b a. walk_of h c q p theta2 ns ((node_at ns i).first + b) a) (2 ^ c) 0 a
                (λ j y x z. enough g h ((node_at ns i).first + j) y (omega (arith, z, block i l h₀ h₁)) (omega (arith, m, block i l h₀ h₁)) (omega (arith, n, block i l h₀ h₁)))
                ∙ sym (opens h i a h₀ h₁)
          ]
        ]

    more : (i : ℕ) (a : Acc) → i < used → walk_of used c q p theta2 ns i a ≡ walk_of (suc used) c q p theta2 ns i a
    more i a l = enough used (suc used) i a l (omega arith) (omega arith)

    pub whole-skip : (i : ℕ) (a : Acc) → i < used → turn_kind i ≡ 0 → walk_of used c q p theta2 ns i a ≡ a
    whole-skip i a l k = more i a l ∙ skips used i a k

    pub whole-body : (i : ℕ) (a : Acc) → i < used → turn_kind i ≡ 1 → walk_of used c q p theta2 ns i a ≡ body_of c p (node_at ns i) a
    whole-body i a l k = more i a l ∙ bodies used i a k

    pub whole_open : (i : ℕ) (a : Acc) → i < used → (turn_kind i ≡ 0 → ⊥) → (turn_kind i ≡ 1 → ⊥) → walk_of used c q p theta2 ns i a ≡ walked_over used c q p theta2 ns (node_at ns i).first (2 ^ c) a
    whole_open i a l h₀ h₁ = more i a l ∙ opens used i a h₀ h₁
