-- The search by halving: k numbers g a, g (a + 1), .. rise, and one of them is sought. Assumes nothing.
use mathlib.Core.Path.{◌≡◌, refl, sym, ap, ◌∙◌}
use mathlib.Core.Bool.{cond}
use Prim.Native.Nat.{ℕ, zero, suc, ◌+◌, ◌-◌, ◌/◌, ◌<◌, ◌≤◌}
use native.Mathlib.Omega.{arith}
use native.Mathlib.Decide.{dec_lt, dec_le}
use lib.Dec.{leb}
use borrow.Author.Tests.{le-leb, lt-leb}

-- only the places from low on, so many as left says, may hold j
pub record Bisects (g : ℕ → ℕ) (j a k low left : ℕ) : Type 0 where
  pub some : 1 ≤ left
  pub inside : (a ≤ low) × (low + left ≤ a + k)
  pub only : (t : ℕ) → t < k → g (a + t) ≡ j → (low ≤ a + t) × (a + t < low + left)

pub bisects-start : {g : ℕ → ℕ} {j a k : ℕ} → (k ≡ 0 → ⊥) → Bisects g j a k a k
bisects-start {g} {j} {a} {k} n = record { some = some k n; inside = (omega arith, omega arith); only = λ t h q. (omega arith, omega arith) }
  where
    some : (k : ℕ) → (k ≡ 0 → ⊥) → 1 ≤ k
    some zero n = absurd (n refl)
    some (suc k) n = omega arith

module _ {g : ℕ → ℕ} {j a k low left : ℕ} (c : (s t : ℕ) → s < t → t < k → g (a + s) < g (a + t)) (h : Bisects g j a k low left) where
  -- the middle lies within the part
  pub bisects-within : 1 < left → low + left / 2 < a + k
  bisects-within m = omega (arith, h.inside)

  -- the middle, counted from a on
  abbrev middle : ℕ
  middle = low + left / 2 - a

  middle-is : a + middle ≡ low + left / 2
  middle-is = omega (arith, h.inside)

  no-below : (t : ℕ) → 1 < left → g (low + left / 2) ≤ j → g (a + t) ≡ j → low + left / 2 ≤ a + t
  no-below t m e q = elim (dec_lt t middle) [
    | yes b ↦ absurd (omega (arith, c t middle b (omega (arith, h.inside)), ap g middle-is))
    | no b ↦ omega (arith, h.inside)
  ]

  no_above : (t : ℕ) → t < k → j < g (low + left / 2) → g (a + t) ≡ j → a + t < low + left / 2
  no_above t i e q = elim (dec_lt t middle) [
    | yes b ↦ omega (arith, h.inside)
    | no b ↦ elim (dec_lt middle t) [
      | yes d ↦ absurd (omega (arith, c middle t d i, ap g middle-is))
      | no d ↦ absurd (omega (arith, ap g (same t b d)))
    ]
  ]
    where
      same : (t : ℕ) → (t < middle → ⊥) → (middle < t → ⊥) → a + t ≡ low + left / 2
      same t b d = omega (arith, h.inside)

  pub bisects-next : (r : ℕ) → 1 < left → r ≡ cond (leb (g (low + left / 2)) j) (low + left / 2) low → Bisects g j a k r (left - left / 2)
  bisects-next r m e = elim (dec_le (g (low + left / 2)) j) [
    | yes b ↦ rw (e, le-leb (g (low + left / 2)) j b) (record {
      some = omega arith;
      inside = (omega (arith, h.inside), omega (arith, h.inside));
      only = λ t i q. (no-below t m b q, omega (arith, h.only t i q));
    })
    | no b ↦ rw (e, lt-leb (g (low + left / 2)) j (omega arith)) (record {
      some = omega arith;
      inside = (omega (arith, h.inside), omega (arith, h.inside));
      only = λ t i q. (omega (arith, h.only t i q), omega (arith, no_above t i (omega arith) q));
    })
  ]

  -- one place is left: j stands there, or nowhere
  pub bisects-done : left ≤ 1 → (t : ℕ) → t < k → g (a + t) ≡ j → a + t ≡ low
  bisects-done m t i q = omega (arith, h.only t i q)
