-- A row that is tested from its first place on, and rows one after the other. Assumes nothing.
use Rattle.std.proofs.Common.{◌≡◌, ℕ, ◌+◌, ◌*◌, ◌<◌, ◌≤◌, List, refl, not-suc-le-zero, arith}
use native.Mathlib.Decide.{dec_lt}
use Rattle.laws.specs.Area.{num}
use Rattle.affinity_lists.specs.Lists.{Rowed}
use Rattle.affinity_lists.proofs.Made.{Row, rows_next}

-- the first t places of a row of frame i are in order, and all below low
pub record Risen (n t i low : ℕ) (row : ℕ → ℕ) : Type 0 where
  pub order : Row n t i row
  pub below : (s : ℕ) → s < t → row s < low

pub risen-none : {n i : ℕ} {row : ℕ → ℕ} → Risen n 0 i 0 row
risen-none = record { order = record { rises = λ s t a b. absurd (not-suc-le-zero b); frames = λ t b. absurd (not-suc-le-zero b) }; below = λ s b. absurd (not-suc-le-zero b) }

pub risen-next : {n t i low : ℕ} {row : ℕ → ℕ} → low ≤ row t → row t < n → (row t ≡ i → ⊥) → Risen n t i low row → Risen n (t + 1) i (row t + 1) row
risen-next {n} {t} {i} {low} {row} l h o r = record {
  order = record {
    rises = λ s u a b. elim (dec_lt u t) [
      | yes m ↦ r.order.rises s u a m
      | no m ↦ rw (last u b m) (before s (rw (last u b m) at a))
    ];
    frames = λ u b. elim (dec_lt u t) [ yes m ↦ r.order.frames u m | no m ↦ rw (last u b m) (h, o) ];
  };
  below = λ s b. elim (dec_lt s t) [ yes m ↦ omega (arith, r.below s m, l) | no m ↦ rw (last s b m) (omega arith) ];
}
  where
    last : (u : ℕ) → u < t + 1 → (u < t → ⊥) → u ≡ t
    last u b m = omega (arith, b, m)

    before : (s : ℕ) → s < t → row s < row t
    before s a = omega (arith, r.below s a, l)

-- row i comes to those before it
pub row-there : {n k i low : ℕ} (J : List ℕ) → Risen n k i low (λ t. num J (i * k + t)) → Rowed i n k J → Rowed (i + 1) n k J
row-there J r = rows_next J r.order (λ p l. refl) (λ t l. refl)

-- a loop over k places that is at its end has done all
pub all_done : (t k : ℕ) → t ≤ k → k ≤ t → t ≡ k
all_done t k l h = omega (arith, l, h)
