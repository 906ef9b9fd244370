-- An area that is written from the front while it is read further on: X stands at the front, and from there on it is as it was. Assumes nothing.
use mathlib.Core.Path.{◌≡◌, refl, sym, ap, ◌∙◌}
use mathlib.Core.List.{List, [], ◌∷◌, ◌++◌, append_assoc}
use Prim.Native.Nat.{ℕ, suc, ◌+◌, ◌<◌, ◌≤◌}
use native.Mathlib.Numerals.{add-one}
use lib.ListN.{length, get_or, set, drop, length-set, length-append}
use lib.Seq.{drop-cons, set_at}
use Rattle.laws.proofs.Joined.{tail_at}

module _ {A : Type 0} where
  pub record Fronts (l₀ X : List A) (q : ℕ) (l : List A) : Type 0 where
    pub long : length X ≡ q
    pub size : length l ≡ length l₀
    pub same : l ≡ X ++ drop q l₀

  pub fronts-start : (l₀ : List A) → Fronts l₀ [] 0 l₀
  fronts-start l₀ = record { long = refl; size = refl; same = refl }

  -- one more is written
  pub fronts-next : {l₀ X l : List A} {q : ℕ} (v : A) → q < length l₀ → Fronts l₀ X q l → Fronts l₀ (X ++ (v ∷ [])) (q + 1) (set l q v)
  fronts-next {l₀} {X} {l} {q} v h f = record {
    long = length-append X (v ∷ []) ∙ ap (λ (x : ℕ). x + 1) f.long;
    size = length-set l q v ∙ f.size;
    same =
        ap (λ (x : List A). set x q v) (f.same ∙ ap (λ (x : List A). X ++ x) (drop-cons l₀ q v h))
        ∙ set_at X (get_or l₀ q v) (drop (suc q) l₀) v q f.long
        ∙ sym (append_assoc X (v ∷ []) (drop (suc q) l₀))
        ∙ ap (λ (x : ℕ). (X ++ (v ∷ [])) ++ drop x l₀) (sym (add-one q));
  }

  -- what lies from q on has not been touched
  pub fronts-at : {l₀ X l : List A} {q : ℕ} → Fronts l₀ X q l → (z : A) (p : ℕ) → q ≤ p → get_or l p z ≡ get_or l₀ p z
  fronts-at {l₀} {X} {l} {q} f z p h = sym (tail_at X l₀ l q p z (sym f.same) f.long h)

  -- the same front, written in other words
  pub fronts-as : {l₀ X Y l : List A} {q : ℕ} → X ≡ Y → Fronts l₀ X q l → Fronts l₀ Y q l
  fronts-as e f = record { long = ap length (sym e) ∙ f.long; size = f.size; same = rw (sym e) f.same }
