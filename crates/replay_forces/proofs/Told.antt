-- That the forces unit may be asked for. Assumes nothing.
use mathlib.Core.Path.{◌≡◌, sym, subst}
use mathlib.Core.List.{List}
use mathlib.Core.Bool.{true}
use Prim.Native.Nat.{ℕ, ◌+◌, ◌*◌, ◌<◌, ◌≤◌}
use lib.ListN.{length, take}
use lib.Ieee.{Float}
use Rattle.laws.specs.Domain.{most_frames, most_word}
use Rattle.tree_node.specs.declared.Cell.{Cell}
use Rattle.tree_node.specs.Node.{Axes}
use Rattle.tree_node.specs.Arena.{nodes_of}
use Rattle.tree_node.proofs.Told.{nodes-length}
use Rattle.tree.specs.Insert.{tree, shaped}
use Rattle.gradient.specs.Forces.{Linked}
use Rattle.replay_arena.specs.Fronts.{Walkable}

pub forces-asks : (cells : List Cell) (k used : ℕ) (positions weights : List Float) (indices offsets : List ℕ) (n c i : ℕ) (forces : List Float)
    → (Axes c) × (i < n) × (n ≤ most_frames) × (n * c ≤ length positions) × (n * (2 * c + 1) ≤ length forces) × (k ≤ 512) × (Walkable k used c cells) × Linked n weights indices offsets i
    → (Axes c) × (i < n) × (n ≤ most_frames) × (n * c ≤ length positions) × (n * (2 * c + 1) ≤ length forces) × (0 < used) ×
    (used ≤ length (nodes_of (take k cells))) × (used ≤ most_word) × (shaped c (tree used (nodes_of (take k cells))) ≡ true) ×
    Linked n weights indices offsets i
forces-asks cells k used positions weights indices offsets n c i forces r =
    (r.0, r.1, r.2, r.3, r.4, r.6.0, subst (λ (m : ℕ). used ≤ m) (sym (nodes-length (take k cells))) r.6.1, r.6.2, r.6.3, r.7)
