-- One, two or three components. Assumes nothing.
use mathlib.Core.Path.{◌≡◌}
use Prim.Native.Nat.{ℕ, ◌^◌, ◌≤◌}
use lib.Pow.{pow_mono}
use native.Mathlib.Omega.{arith}
use Rattle.tree_node.specs.Node.{Axes}

pub third : (c : ℕ) → Axes c → (c ≡ 1 → ⊥) → (c ≡ 2 → ⊥) → c ≡ 3
third c a m n = omega arith

pub few-children : (c : ℕ) → Axes c → 2 ^ c ≤ 8
few-children c a = pow_mono a.1
