-- An area written from the front: from place q on, a whole list at a time, and cleared past what was written. Assumes nothing.
use mathlib.Core.Path.{◌≡◌, refl, sym, ap, subst, ◌∙◌}
use mathlib.Core.List.{List, [], ◌∷◌, ◌++◌, append_assoc, append-nil}
use Prim.Native.Nat.{ℕ, ◌+◌, ◌-◌, ◌<◌, ◌≤◌}
use native.Mathlib.Omega.{arith}
use lib.ListN.{length, set, take, drop, replicate, length-append, take-append-drop, replicate-append-replicate}
use lib.Seq.{length-take-le, take_at, drop_at}
use Rattle.laws.specs.Joined.{written}
use Rattle.laws.proofs.Changed.{drop-later}
use Rattle.take_gone.proofs.Fronts.{Fronts, fronts-next, fronts-as}
use Rattle.take_rows.specs.Rows.{shrunk}
use Rattle.take_rows.specs.Rows.{cleared_from}

module _ {A : Type 0} where
  -- ---- w is written from place q on, up to e: what stood below q is a part of the front

  pub record Appends (l₀ : List A) (q : ℕ) (w : List A) (e : ℕ) (l : List A) : Type 0 where
    pub below : q ≤ length l₀
    pub front : Fronts l₀ (take q l₀ ++ w) e l

  pub appends-start : (l : List A) (q : ℕ) → q ≤ length l → Appends l q [] q l
  appends-start l q h = record {
    below = h;
    front = fronts-as (sym (append-nil (take q l))) (record { long = length-take-le q l h; size = refl; same = sym (take-append-drop q l) });
  }

  -- the same list, written in other words
  pub appends-as : {l₀ w w' l : List A} {q e : ℕ} → w ≡ w' → Appends l₀ q w e l → Appends l₀ q w' e l
  appends-as {l₀} {w} {w'} {l} {q} s f = record { below = f.below; front = fronts-as (ap (λ (x : List A). take q l₀ ++ x) s) f.front }

  pub appends-next : {l₀ w l : List A} {q e : ℕ} (v : A) → e < length l₀ → Appends l₀ q w e l → Appends l₀ q (w ++ (v ∷ [])) (e + 1) (set l e v)
  appends-next {l₀} {w} {l} {q} {e} v h f = record { below = f.below; front = fronts-as (append_assoc (take q l₀) w (v ∷ [])) (fronts-next v h f.front) }

  -- how far it goes
  pub appends-upto : {l₀ w l : List A} {q e : ℕ} → Appends l₀ q w e l → e ≡ q + length w
  appends-upto {l₀} {w} {l} {q} {e} f = sym f.front.long ∙ length-append (take q l₀) w ∙ ap (λ (x : ℕ). x + length w) (length-take-le q l₀ f.below)

  pub appends-done : {l₀ w l : List A} {q e : ℕ} → Appends l₀ q w e l → l ≡ written w q l₀
  appends-done {l₀} {w} {l} {q} {e} f = f.front.same ∙ ap (λ (x : ℕ). take q l₀ ++ w ++ drop x l₀) (appends-upto f)

  -- ---- a whole list more

  -- past the front the area is as it was
  pub fronts-rest : {l₀ X l : List A} {q : ℕ} → Fronts l₀ X q l → (p : ℕ) → q ≤ p → drop p l ≡ drop p l₀
  fronts-rest {l₀} {X} {l} {q} f p h = drop-later l l₀ q p h (ap (drop q) f.same ∙ drop_at X (drop q l₀) q f.long)

  pub fronts-low : {l₀ X l : List A} {q : ℕ} → Fronts l₀ X q l → take q l ≡ X
  fronts-low {l₀} {X} {l} {q} f = ap (take q) f.same ∙ take_at X (drop q l₀) q f.long

  pub fronts-join : {l₀ X l l' : List A} {q : ℕ} (w : List A) → l' ≡ written w q l → length l' ≡ length l → Fronts l₀ X q l → Fronts l₀ (X ++ w) (q + length w) l'
  fronts-join {l₀} {X} {l} {l'} {q} w e s f = record {
    long = length-append X w ∙ ap (λ (x : ℕ). x + length w) f.long;
    size = s ∙ f.size;
    same =
        e
        ∙ ap (λ (x : List A). x ++ w ++ drop (q + length w) l) (fronts-low f)
        ∙ ap (λ (x : List A). X ++ w ++ x) (fronts-rest f (q + length w) (omega arith));
  }

  -- ---- the loop that clears: the places from a up to p are cleared

  pub record Blanks (z : A) (l₀ : List A) (a b p : ℕ) (l : List A) : Type 0 where
    pub from : a ≤ p
    pub within : p ≤ b
    pub zeros : Appends l₀ a (replicate (p - a) z) p l

  module _ {z : A} {l₀ : List A} {a b : ℕ} where
    pub blanks-start : a ≤ b → b ≤ length l₀ → Blanks z l₀ a b a l₀
    blanks-start h m = record {
      from = omega arith;
      within = h;
      zeros = subst (λ (x : ℕ). Appends l₀ a (replicate x z) a l₀) (none a) (appends-start l₀ a (omega arith));
    }
      where
        none : (a : ℕ) → 0 ≡ a - a
        none a = omega arith

    pub blanks-next : {p : ℕ} {l : List A} → b ≤ length l₀ → p < b → Blanks z l₀ a b p l → Blanks z l₀ a b (p + 1) (set l p z)
    blanks-next {p} {l} m h r = record {
      from = omega (arith, r.from);
      within = omega arith;
      zeros = appends-as (replicate-append-replicate (p - a) 1 z ∙ ap (λ (x : ℕ). replicate x z) (one a p r.from)) (appends-next z (omega arith) r.zeros);
    }
      where
        one : (a p : ℕ) → a ≤ p → p - a + 1 ≡ p + 1 - a
        one a p h = omega arith

    pub blanks-done : {p : ℕ} {l : List A} → b ≤ p → Blanks z l₀ a b p l → l ≡ cleared_from z a b l₀
    blanks-done {p} {l} h r =
        r.zeros.front.same
        ∙ append_assoc (take a l₀) (replicate (p - a) z) (drop p l₀)
        ∙ ap (λ (x : ℕ). take a l₀ ++ (replicate (x - a) z ++ drop x l₀)) (is p b r.within h)
      where
        is : (p b : ℕ) → p ≤ b → b ≤ p → p ≡ b
        is p b l m = omega arith

  -- an area with X at its front, cleared past X up to its old size
  pub front-shrunk : {l l' : List A} {q s : ℕ} (z : A) (X l₀ : List A) → length X ≡ q → q ≤ s → l ≡ X ++ drop q l₀ → l' ≡ cleared_from z q s l → l' ≡ shrunk z s X l₀
  front-shrunk {l} {l'} {q} {s} z X l₀ n h e f =
      f
      ∙ ap (λ (x : List A). x ++ (replicate (s - q) z ++ drop s l)) (ap (take q) e ∙ take_at X (drop q l₀) q n)
      ∙ ap (λ (x : List A). X ++ (replicate (s - q) z ++ x)) (drop-later l l₀ q s h (ap (drop q) e ∙ drop_at X (drop q l₀) q n))
      ∙ ap (λ (x : ℕ). X ++ (replicate (s - x) z ++ drop s l₀)) (sym n)
