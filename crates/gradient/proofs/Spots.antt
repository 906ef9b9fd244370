-- Where an element's forces lie in an area that is long enough for n points. Assumes nothing.
use Prim.Native.Nat.{ℕ, ◌+◌, ◌*◌, ◌/◌, ◌%◌, ◌<◌, ◌≤◌}
use native.Mathlib.Omega.{arith}
use native.Mathlib.Nat.{div-lt_iff_lt-mul, mod-lt, le_trans, lt_of_lt_of_le, mul-le-mul_left}
use Rattle.laws.proofs.Numbers.{row_in}

pub record Spot (c e l : ℕ) : Type 0 where
  -- the row of its point
  pub row : e / c * (2 * c + 1) + (2 * c + 1) ≤ l
  -- its component
  pub part : e % c < c
  -- its own number
  pub own : e < l

pub spot-of : (n c e l : ℕ) → 0 < c → e < n * c → n * (2 * c + 1) ≤ l → Spot c e l
spot-of n c e l h m r =
    let q : e / c < n = (div-lt_iff_lt-mul {k = c} {x = e} {y = n} h).1 m in
    let w : n * c ≤ n * (2 * c + 1) = mul-le-mul_left n (omega arith) in
    record { row = row_in (e / c) n (2 * c + 1) l q r; part = mod-lt e h; own = lt_of_lt_of_le m (le_trans w r) }
