-- The front of an area written place by place. Assumes nothing.
use mathlib.Core.Path.{◌≡◌, refl, sym, ap, ◌∙◌}
use mathlib.Core.List.{List, [], ◌∷◌, ◌++◌}
use Prim.Native.Nat.{ℕ, suc, ◌+◌, ◌<◌, ◌≤◌}
use native.Mathlib.Omega.{arith}
use native.Mathlib.Numerals.{add-one}
use native.Mathlib.Nat.{le_antisymm}
use lib.ListN.{length, get_or, set, drop, length-set}
use lib.Seq.{drop-cons, set_at, append_snoc}
use Rattle.laws.specs.Joined.{each, joined}
use Rattle.laws.proofs.Joined.{joined-next, length-singles}

-- one place more: what stands before it is xs
pub put_next : (xs v : List ℕ) (k x : ℕ) → length xs ≡ k → k < length v → set (xs ++ drop k v) k x ≡ (xs ++ (x ∷ [])) ++ drop (k + 1) v
put_next xs v k x e h =
    ap (λ (r : List ℕ). set (xs ++ r) k x) (drop-cons v k 0 h)
    ∙ set_at xs (get_or v k 0) (drop (suc k) v) x k e
    ∙ sym (append_snoc xs x (drop (suc k) v))
    ∙ ap (λ (s : ℕ). (xs ++ (x ∷ [])) ++ drop s v) (sym (add-one k))

-- ---- the loop: i places are written

pub record Fetches (g : ℕ → ℕ) (m : ℕ) (v₀ : List ℕ) (i : ℕ) (v : List ℕ) : Type 0 where
  pub within : i ≤ m
  pub size : length v ≡ length v₀
  pub same : v ≡ each g i ++ drop i v₀

module _ {g : ℕ → ℕ} {m : ℕ} {v₀ : List ℕ} where
  pub fetches-start : Fetches g m v₀ 0 v₀
  unfolding joined
  fetches-start = record { within = omega arith; size = refl; same = refl }

  pub fetches-next : {i : ℕ} {v : List ℕ} → m ≤ length v₀ → i < m → Fetches g m v₀ i v → Fetches g m v₀ (i + 1) (set v i (g i))
  fetches-next {i} {v} h l r = record {
    within = omega arith;
    size = length-set v i (g i) ∙ r.size;
    same =
        ap (λ (x : List ℕ). set x i (g i)) r.same
        ∙ put_next (each g i) v₀ i (g i) (length-singles g i) (omega arith)
        ∙ ap (λ (x : List ℕ). x ++ drop (i + 1) v₀) (sym (joined-next (λ j. g j ∷ []) i));
  }

  pub fetches-done : {i : ℕ} {v : List ℕ} → m ≤ i → Fetches g m v₀ i v → v ≡ each g m ++ drop m v₀
  fetches-done {i} {v} h r = r.same ∙ ap (λ (x : ℕ). each g x ++ drop x v₀) (le_antisymm r.within h)
