-- The places of an exact run's forces: the total's lies among those that both methods have. Assumes nothing.
use mathlib.Core.Path.{◌≡◌}
use Prim.Native.Nat.{ℕ, ◌+◌, ◌*◌, ◌≤◌}
use native.Mathlib.Omega.{arith}
use native.Mathlib.Nat.{mul-le-mul, mul-one, mul-add, le_refl}

-- n·c places and one more are fewer than n·(2c + 1)
pub cells-forces : (n c : ℕ) → n * c + n ≤ n * (2 * c + 1)
cells-forces n c =
    let a : n * (c + 1) ≤ n * (2 * c + 1) = mul-le-mul {n₁ = n} {m₁ = c + 1} {n₂ = n} {m₂ = 2 * c + 1} (le_refl n) (omega arith) in
    let b : n * (c + 1) ≡ n * c + n * 1 = mul-add n c 1 in
    let d : n * 1 ≡ n = mul-one n in
    omega arith
