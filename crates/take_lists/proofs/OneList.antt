-- One list packed: after t links those that name a frame in keep stand from place q on, and what is still to be read is as it was. Assumes nothing.
use mathlib.Core.Path.{◌≡◌, sym, ap, subst, ◌∙◌}
use mathlib.Core.List.{List, [], ◌∷◌, ◌++◌, map}
use mathlib.Core.Bool.{Bool, true, false}
use Prim.Native.Nat.{ℕ, ◌+◌, ◌<◌, ◌≤◌}
use native.Mathlib.Omega.{arith}
use native.Mathlib.Nat.{le_antisymm}
use lib.ListN.{length, set}
use borrow.Author.Tests.{lt-ltb, le-ltb}
use Rattle.laws.specs.Area.{num}
use Rattle.laws.specs.Joined.{those, written}
use Rattle.laws.proofs.Joined.{those-none, those-yes, those-no, those-same, map-those, map-append, length-map}
use Rattle.take_gone.specs.Gone.{stands_at, is_among}
use Rattle.take_gone.proofs.Fronts.{fronts-at}
use Rattle.take_lists.specs.Steps.{kept_from, indices_from, weights_from}
use Rattle.take_lists.proofs.Fronting.{Appends, appends-start, appends-as, appends-next, appends-upto, appends-done}

module _ {A : Type 0} (f : ℕ → A) (p : ℕ → Bool) where
  map-none : [] ≡ map f (those p 0)
  map-none = ap (map f) (sym (those-none p))

  map-no : (t : ℕ) → p t ≡ false → map f (those p t) ≡ map f (those p (t + 1))
  map-no t e = ap (map f) (sym (those-no p t e))

  map-yes : (t : ℕ) → p t ≡ true → map f (those p t) ++ (f t ∷ []) ≡ map f (those p (t + 1))
  map-yes t e = sym (ap (map f) (those-yes p t e) ∙ map-append f (those p t) (t ∷ []))

pub record Sifts (keep W₀ I₀ : List ℕ) (a k q t e : ℕ) (W I : List ℕ) : Type 0 where
  pub within : t ≤ k
  pub few : e ≤ q + t
  pub weights : Appends W₀ q (weights_from keep W₀ I₀ a t) e W
  pub indices : Appends I₀ q (indices_from keep I₀ a t) e I

module _ {keep W₀ I₀ : List ℕ} {a k q : ℕ} (low : q ≤ a) (wide : a + k ≤ length W₀) (long : a + k ≤ length I₀) where
  pub sifts-start : Sifts keep W₀ I₀ a k q 0 q W₀ I₀
  sifts-start = record {
    within = omega arith;
    few = omega arith;
    weights = appends-as (map-none (λ t. num W₀ (a + t)) (λ t. is_among keep (num I₀ (a + t)))) (appends-start W₀ q (omega arith));
    indices = appends-as (map-none (λ t. stands_at keep (num I₀ (a + t))) (λ t. is_among keep (num I₀ (a + t)))) (appends-start I₀ q (omega arith));
  }

  module _ {t e : ℕ} {W I : List ℕ} (l : t < k) (r : Sifts keep W₀ I₀ a k q t e W I) where
    index_same : num I (a + t) ≡ num I₀ (a + t)
    index_same = fronts-at r.indices.front 0 (a + t) (omega (arith, r.few))

    weight-same : num W (a + t) ≡ num W₀ (a + t)
    weight-same = fronts-at r.weights.front 0 (a + t) (omega (arith, r.few))

    -- there is room for one more
    pub sifts-room : (e < length W) × (e < length I)
    sifts-room = (omega (arith, r.few, r.weights.front.size), omega (arith, r.few, r.indices.front.size))

    module _ {x : ℕ} (s : x ≡ stands_at keep (num I (a + t))) where
      stands : x ≡ stands_at keep (num I₀ (a + t))
      stands = s ∙ ap (stands_at keep) index_same

      pub sifts-pass : length keep ≤ x → Sifts keep W₀ I₀ a k q (t + 1) e W I
      sifts-pass h =
          let no : is_among keep (num I₀ (a + t)) ≡ false = le-ltb _ _ (subst (λ (y : ℕ). length keep ≤ y) stands h) in
          record {
            within = omega arith;
            few = omega (arith, r.few);
            weights = appends-as (map-no (λ t. num W₀ (a + t)) (λ t. is_among keep (num I₀ (a + t))) t no) r.weights;
            indices = appends-as (map-no (λ t. stands_at keep (num I₀ (a + t))) (λ t. is_among keep (num I₀ (a + t))) t no) r.indices;
          }

      pub sifts-next : x < length keep → Sifts keep W₀ I₀ a k q (t + 1) (e + 1) (set W e (num W (a + t))) (set I e x)
      sifts-next h =
          let yes : is_among keep (num I₀ (a + t)) ≡ true = lt-ltb _ _ (subst (λ (y : ℕ). y < length keep) stands h) in
          record {
            within = omega arith;
            few = omega (arith, r.few);
            weights = appends-as
                (ap (λ (v : ℕ). weights_from keep W₀ I₀ a t ++ (v ∷ [])) weight-same ∙ map-yes (λ t. num W₀ (a + t)) (λ t. is_among keep (num I₀ (a + t))) t yes)
                (appends-next (num W (a + t)) (omega (arith, r.few)) r.weights);
            indices = appends-as
                (ap (λ (v : ℕ). indices_from keep I₀ a t ++ (v ∷ [])) stands ∙ map-yes (λ t. stands_at keep (num I₀ (a + t))) (λ t. is_among keep (num I₀ (a + t))) t yes)
                (appends-next x (omega (arith, r.few)) r.indices);
          }

  pub sifts-done : {t e : ℕ} {W I : List ℕ} → k ≤ t → Sifts keep W₀ I₀ a k q t e W I
      → (e ≡ q + length (kept_from keep I₀ a k)) × (W ≡ written (weights_from keep W₀ I₀ a k) q W₀) × (I ≡ written (indices_from keep I₀ a k) q I₀)
  sifts-done {t} {e} {W} {I} h r =
      let s : t ≡ k = le_antisymm r.within h in
      let w = appends-as (ap (weights_from keep W₀ I₀ a) s) r.weights in
      (appends-upto w ∙ ap (λ (x : ℕ). q + x) (length-map (λ t. num W₀ (a + t)) (kept_from keep I₀ a k)), appends-done w, appends-done (appends-as (ap (indices_from keep I₀ a) s) r.indices))

-- what one list gives depends only on its own links
module _ (keep I I₀ : List ℕ) (a k : ℕ) (i : (t : ℕ) → t < k → num I (a + t) ≡ num I₀ (a + t)) where
  pub kept_same : kept_from keep I a k ≡ kept_from keep I₀ a k
  kept_same = those-same (λ t. is_among keep (num I (a + t))) (λ t. is_among keep (num I₀ (a + t))) k (λ t l. ap (is_among keep) (i t l))

  pub indices-same : indices_from keep I a k ≡ indices_from keep I₀ a k
  indices-same =
      ap (map (λ t. stands_at keep (num I (a + t)))) kept_same
      ∙ map-those (λ t. stands_at keep (num I (a + t))) (λ t. stands_at keep (num I₀ (a + t))) (λ t. is_among keep (num I₀ (a + t))) k (λ t l. ap (stands_at keep) (i t l))

  pub weights-same : (W W₀ : List ℕ) → ((t : ℕ) → t < k → num W (a + t) ≡ num W₀ (a + t)) → weights_from keep W I a k ≡ weights_from keep W₀ I₀ a k
  weights-same W W₀ w =
      ap (map (λ t. num W (a + t))) kept_same
      ∙ map-those (λ t. num W (a + t)) (λ t. num W₀ (a + t)) (λ t. is_among keep (num I₀ (a + t))) k w
