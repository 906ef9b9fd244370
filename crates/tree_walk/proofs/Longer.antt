-- A longer arena changes nothing of the walk: it looks at no node past those in use. Assumes nothing.
use mathlib.Core.Path.{◌≡◌, refl, sym, ap, ◌∙◌}
use mathlib.Core.List.{List, ◌++◌}
use Prim.Native.Nat.{ℕ, zero, suc, ◌+◌, ◌^◌, ◌<◌, ◌≤◌}
use native.Mathlib.Omega.{arith}
use native.Mathlib.Decide.{ℕ_discrete}
use lib.ListN.{length, get_or-append}
use lib.Ieee.{Float}
use Rattle.laws.specs.Loops.{loop}
use Rattle.laws.proofs.Loops.{loop-same}
use Rattle.tree_node.specs.declared.Node.{Node}
use Rattle.tree_node.specs.Arena.{node_at, blank}
use Rattle.tree_bodies.specs.declared.Acc.{Acc}
use Rattle.tree_bodies.specs.Bodies.{kind_of, body_of}
use Rattle.tree_walk.specs.Repel.{walk_of, Blocks, nothing, repelled}
use Rattle.tree_walk.proofs.Fuel.{turn_kind, skips, bodies, opens, block}

module _ (ns more : List Node) (used c : ℕ) (within : used ≤ length ns) (ok : Blocks used c ns) (q : ℕ) (p : List Float) (theta2 : Float) where
  walk-longer : (g i : ℕ) (a : Acc) → i < used → walk_of g c q p theta2 (ns ++ more) i a ≡ walk_of g c q p theta2 ns i a
  unfolding walk_of
  walk-longer zero i a l = refl
  walk-longer (suc g) i a l =
      let e : node_at (ns ++ more) i ≡ node_at ns i = get_or-append ns more blank i (omega (arith, l, within)) in
      let k : turn_kind c q p theta2 (ns ++ more) i ≡ turn_kind c q p theta2 ns i = ap (kind_of c q p theta2) e in
      elim (ℕ_discrete (turn_kind c q p theta2 ns i) 0) [
        | yes x ↦ skips c q p theta2 (ns ++ more) g i a (k ∙ x) ∙ sym (skips c q p theta2 ns g i a x)
        | no h₀ ↦ elim (ℕ_discrete (turn_kind c q p theta2 ns i) 1) [
          | yes x ↦ bodies c q p theta2 (ns ++ more) g i a (k ∙ x) ∙ ap (λ (v : Node). body_of c p v a) e ∙ sym (bodies c q p theta2 ns g i a x)
          | no h₁ ↦
              let b = block c q p theta2 ns used ok i l h₀ h₁ in
              opens c q p theta2 (ns ++ more) g i a (λ x. h₀ (sym k ∙ x)) (λ x. h₁ (sym k ∙ x))
              ∙ ap (λ (v : Node). loop (λ j y. walk_of g c q p theta2 (ns ++ more) (v.first + j) y) (2 ^ c) 0 a) e
              ∙ loop-same (λ j y. walk_of g c q p theta2 (ns ++ more) ((node_at ns i).first + j) y) (λ j y. walk_of g c q p theta2 ns ((node_at ns i).first + j) y)
              (2 ^ c) 0 a (λ j y _ lj. walk-longer g ((node_at ns i).first + j) y (omega (arith, b, lj)))
              ∙ sym (opens c q p theta2 ns g i a h₀ h₁)
        ]
      ]

  pub repelled-longer : 0 < used → repelled used c q p theta2 (ns ++ more) ≡ repelled used c q p theta2 ns
  unfolding repelled
  repelled-longer some = walk-longer used 0 nothing some
