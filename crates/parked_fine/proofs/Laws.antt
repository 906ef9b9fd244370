-- How many links a run can list. Assumes nothing.
use Prim.Native.Nat.{ℕ, ◌*◌, ◌≤◌}
use native.Mathlib.Omega.{arith}
use native.Mathlib.Nat.{mul-le-mul}
use lib.Ieee.{Float}
use Rattle.laws.specs.Domain.{most_frames}
use Rattle.elementary.specs.Limits.{neighbours_of}

neighbours-most : (x : Float) (n : ℕ) → n ≤ most_frames → neighbours_of x n ≤ most_frames
unfolding neighbours_of
neighbours-most x n h = omega arith

pub most-links : (x : Float) (n : ℕ) → n ≤ most_frames → 2 * n * neighbours_of x n ≤ 2 * most_frames * most_frames
most-links x n h = mul-le-mul (le-twice n h) (neighbours-most x n h)
  where
    le-twice : (n : ℕ) → n ≤ most_frames → 2 * n ≤ 2 * most_frames
    le-twice n h = omega arith
