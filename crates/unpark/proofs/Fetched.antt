-- The record as it is read: its words are written one by one. Assumes nothing.
use mathlib.Core.Path.{◌≡◌, refl, ap, ◌∙◌}
use mathlib.Core.List.{List, [], ◌∷◌, ◌++◌}
use Prim.Native.Nat.{ℕ, ◌+◌, ◌<◌, ◌≤◌}
use native.Mathlib.Omega.{arith}
use lib.ListN.{length, set, drop}
use Rattle.areas.proofs.Fetched.{put_next}
use Rattle.unpark.specs.Unpark.{record_read}
use Rattle.unpark.specs.Steps.{units_read, settings_told, counters_told}

-- ---- the record's words, one by one

module _ (w : List ℕ) where
  next : (xs u : List ℕ) (k x : ℕ) → length xs ≡ k → k < length w → u ≡ xs ++ drop k w → set u k x ≡ (xs ++ (x ∷ [])) ++ drop (k + 1) w
  next xs u k x e h q = ap (λ (y : List ℕ). set y k x) q ∙ put_next xs w k x e h

  module _ (g : ℕ → ℕ) (h : 14 ≤ length w) where
    nine : settings_told g w ≡ (g 1 ∷ g 2 ∷ g 3 ∷ g 0 ∷ g 4 ∷ g 5 ∷ g 6 ∷ g 7 ∷ g 8 ∷ []) ++ drop 9 w
    nine =
        next (g 1 ∷ g 2 ∷ g 3 ∷ g 0 ∷ g 4 ∷ g 5 ∷ g 6 ∷ g 7 ∷ []) _ 8 (g 8) refl (omega arith)
        (next (g 1 ∷ g 2 ∷ g 3 ∷ g 0 ∷ g 4 ∷ g 5 ∷ g 6 ∷ []) _ 7 (g 7) refl (omega arith)
        (next (g 1 ∷ g 2 ∷ g 3 ∷ g 0 ∷ g 4 ∷ g 5 ∷ []) _ 6 (g 6) refl (omega arith)
        (next (g 1 ∷ g 2 ∷ g 3 ∷ g 0 ∷ g 4 ∷ []) _ 5 (g 5) refl (omega arith)
        (next (g 1 ∷ g 2 ∷ g 3 ∷ g 0 ∷ []) _ 4 (g 4) refl (omega arith)
        (next (g 1 ∷ g 2 ∷ g 3 ∷ []) _ 3 (g 0) refl (omega arith)
        (next (g 1 ∷ g 2 ∷ []) _ 2 (g 3) refl (omega arith)
        (next (g 1 ∷ []) _ 1 (g 2) refl (omega arith)
        (next [] _ 0 (g 1) refl (omega arith) refl))))))))

    pub record-told : counters_told g (settings_told g w) ≡ record_read g ++ drop 14 w
    unfolding record_read
    record-told =
        next (g 1 ∷ g 2 ∷ g 3 ∷ g 0 ∷ g 4 ∷ g 5 ∷ g 6 ∷ g 7 ∷ g 8 ∷ g 10 ∷ g 9 ∷ 0 ∷ units_read g ∷ []) _ 13 0 refl (omega arith)
        (next (g 1 ∷ g 2 ∷ g 3 ∷ g 0 ∷ g 4 ∷ g 5 ∷ g 6 ∷ g 7 ∷ g 8 ∷ g 10 ∷ g 9 ∷ 0 ∷ []) _ 12 (units_read g) refl (omega arith)
        (next (g 1 ∷ g 2 ∷ g 3 ∷ g 0 ∷ g 4 ∷ g 5 ∷ g 6 ∷ g 7 ∷ g 8 ∷ g 10 ∷ g 9 ∷ []) _ 11 0 refl (omega arith)
        (next (g 1 ∷ g 2 ∷ g 3 ∷ g 0 ∷ g 4 ∷ g 5 ∷ g 6 ∷ g 7 ∷ g 8 ∷ g 10 ∷ []) _ 10 (g 9) refl (omega arith)
        (next (g 1 ∷ g 2 ∷ g 3 ∷ g 0 ∷ g 4 ∷ g 5 ∷ g 6 ∷ g 7 ∷ g 8 ∷ []) _ 9 (g 10) refl (omega arith) nine))))
