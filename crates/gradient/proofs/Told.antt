-- What the proof of `point_forces` cites: that its calls may be made, and what they come to. Assumes nothing.
use mathlib.Core.Path.{◌≡◌, sym, subst, ap, ◌∙◌}
use mathlib.Core.List.{List}
use mathlib.Core.Bool.{true}
use Prim.Native.Nat.{ℕ, ◌+◌, ◌*◌, ◌<◌, ◌≤◌}
use lib.ListN.{length}
use lib.Ieee.{Float}
use Rattle.laws.specs.Domain.{most_frames, most_word}
use Rattle.tree_node.specs.declared.Cell.{Cell}
use Rattle.tree_node.specs.Node.{Axes}
use Rattle.tree_node.specs.Arena.{nodes_of}
use Rattle.tree_node.proofs.Told.{nodes-length}
use Rattle.tree_bodies.specs.declared.Acc.{Acc}
use Rattle.tree_walk.specs.declared.Eye.{Eye}
use Rattle.tree_walk.specs.Repel.{Blocks, repelled}
use Rattle.tree.specs.Insert.{tree, shaped}
use Rattle.tree.proofs.Opens.{blocks-of}
use Rattle.gradient.specs.Forces.{attraction_of, Linked, stored, eye_of, forces_of}

module _ (cells : List Cell) (used : ℕ) (positions weights : List Float) (indices offsets : List ℕ) (n c i : ℕ) (exaggeration angle : Float) (forces : List Float) where
  -- what `point_forces` asks
  abbrev pub ForcesAsked : Type 0
  ForcesAsked = (Axes c) × (i < n) × (n ≤ most_frames) × (n * c ≤ length positions) × (n * (2 * c + 1) ≤ length forces) × (0 < used) ×
      (used ≤ length (nodes_of cells)) × (used ≤ most_word) × (shaped c (tree used (nodes_of cells)) ≡ true) × Linked n weights indices offsets i

  module _ (ready : ForcesAsked) (eye : Eye) (is : eye ≡ eye_of angle c positions i) where
    pub walk-asks : (Axes eye.c) × (0 < used) × (used ≤ length cells) × (used ≤ most_word) × Blocks used eye.c (nodes_of cells)
    walk-asks =
        subst (λ (y : Eye). (Axes y.c) × (0 < used) × (used ≤ length cells) × (used ≤ most_word) × Blocks used y.c (nodes_of cells)) (sym is)
        (ready.0, ready.5, subst (λ (k : ℕ). used ≤ k) (nodes-length cells) ready.6, ready.7, blocks-of used c (nodes_of cells) ready.8)

    pub forces-told : (acc : Acc) → acc ≡ repelled used eye.c eye.q eye.p eye.theta2 (nodes_of cells) → (after : List Float)
        → after ≡ stored c i (attraction_of exaggeration c positions weights indices offsets i) acc forces →
        after ≡ forces_of exaggeration angle c positions weights indices offsets used (nodes_of cells) i forces
    unfolding forces_of
    forces-told acc e after f = f ∙ ap (λ (a : Acc). stored c i (attraction_of exaggeration c positions weights indices offsets i) a forces)
        (e ∙ ap (λ (y : Eye). repelled used y.c y.q y.p y.theta2 (nodes_of cells)) is)
