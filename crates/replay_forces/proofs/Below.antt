-- Indices that name frames: none at first, one more with each test. Assumes nothing.
use mathlib.Core.List.{List}
use mathlib.Core.Path.{◌≡◌, sym, subst}
use mathlib.Core.Logic.{⊎_elim}
use Prim.Native.Nat.{ℕ, ◌+◌, ◌<◌, ◌≤◌}
use native.Mathlib.Nat.{eq-or-lt_of_le}
use native.Mathlib.Omega.{arith}
use Rattle.laws.specs.Area.{num}
use Rattle.gradient.specs.Forces.{Below}

-- one more: what holds below m and at m holds below m + 1
pub each_next : (P : ℕ → Type 0) (m : ℕ) → ((k : ℕ) → k < m → P k) → P m → (k : ℕ) → k < m + 1 → P k
each_next P m b h k l =
    let within : k ≤ m = omega arith in
    ⊎_elim (λ (q : k ≡ m). subst P (sym q) h) (λ (s : k < m). b k s) (eq-or-lt_of_le within)

pub below_none : (n : ℕ) (I : List ℕ) → Below n 0 I
below_none n I k h = absurd (omega arith)

pub below_next : (n m : ℕ) (I : List ℕ) → Below n m I → num I m < n → Below n (m + 1) I
below_next n m I b h = each_next (λ (i : ℕ). num I i < n) m b h
