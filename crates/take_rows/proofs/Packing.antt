-- Rows brought to the front of an area, one after the other, from places further on: the loop over a row, and the loop over rows. Assumes nothing.
use mathlib.Core.Path.{◌≡◌, refl, sym, ap, ◌∙◌}
use mathlib.Core.List.{List, [], ◌∷◌, ◌++◌, append_assoc, append-nil}
use Prim.Native.Nat.{ℕ, zero, suc, ◌+◌, ◌*◌, ◌<◌, ◌≤◌}
use native.Mathlib.Omega.{arith}
use native.Mathlib.Numerals.{add-one}
use native.Mathlib.Nat.{add-zero, add_assoc, zero-mul, suc-mul, mul-le-mul_right}
use lib.ListN.{length, get_or, set, take, drop, length-append, take-append-drop}
use lib.Seq.{take_at, drop_at, length-take-le}
use Rattle.laws.specs.Area.{num}
use Rattle.laws.specs.Joined.{joined, each}
use Rattle.laws.proofs.Numbers.{row_in}
use Rattle.laws.proofs.Joined.{joined-next, joined-none}
use Rattle.laws.proofs.Changed.{drop-later}
use Rattle.take_gone.proofs.Fronts.{Fronts, fronts-next, fronts-at, fronts-as}
use Rattle.take_rows.specs.Rows.{Staying}

module _ {A : Type 0} where
  pub joined_same : (f g : ℕ → List A) (n : ℕ) → ((i : ℕ) → i < n → f i ≡ g i) → joined f n ≡ joined g n
  unfolding joined
  joined_same f g zero h = refl
  joined_same f g (suc n) h = rw (joined_same f g n (λ i l. h i (omega arith)), h n (omega arith))

  pub each_same : (f g : ℕ → A) (n : ℕ) → ((i : ℕ) → i < n → f i ≡ g i) → each f n ≡ each g n
  each_same f g n h = joined_same (λ j. f j ∷ []) (λ j. g j ∷ []) n (λ i l. ap (λ (x : A). x ∷ []) (h i l))

  -- ---- a row: d of its w values are brought to place `to`

  pub record Brings (g : ℕ → A) (to w : ℕ) (l₀ : List A) (d : ℕ) (l : List A) : Type 0 where
    pub within : d ≤ w
    pub front : Fronts l₀ (take to l₀ ++ each g d) (to + d) l

  module _ {g : ℕ → A} {to w : ℕ} {l₀ : List A} where
    pub brings-start : to ≤ length l₀ → Brings g to w l₀ 0 l₀
    brings-start h = record {
      within = omega arith;
      front = record {
        long = ap length none ∙ length-take-le to l₀ h ∙ sym (add-zero to);
        size = refl;
        same = sym (ap (λ (x : ℕ). (take to l₀ ++ each g 0) ++ drop x l₀) (add-zero to) ∙ ap (λ (x : List A). x ++ drop to l₀) none ∙ take-append-drop to l₀);
      };
    }
      where
        none : take to l₀ ++ each g 0 ≡ take to l₀
        none = ap (λ (x : List A). take to l₀ ++ x) (joined-none (λ j. g j ∷ [])) ∙ append-nil (take to l₀)

    module _ {d : ℕ} {l : List A} (b : Brings g to w l₀ d l) where
      pub brings-next : (v : A) → v ≡ g d → to + w ≤ length l₀ → d < w → Brings g to w l₀ (d + 1) (set l (to + d) v)
      brings-next v e h m = record {
        within = omega arith;
        front = rw (sym (add_assoc to d 1)) (fronts-as
            (append_assoc (take to l₀) (each g d) (v ∷ []) ∙ ap (λ (x : A). take to l₀ ++ (each g d ++ (x ∷ []))) e ∙ ap (λ (x : List A). take to l₀ ++ x) (sym (joined-next (λ j. g j ∷ []) d)))
            (fronts-next v (omega arith) b.front));
      }

      -- what lies from place `to + d` on has not been touched
      pub brings-at : (z : A) (p : ℕ) → to + d ≤ p → get_or l p z ≡ get_or l₀ p z
      brings-at z p h = fronts-at b.front z p h

      pub brings-done : w ≤ d → l ≡ take to l₀ ++ (each g w ++ drop (to + w) l₀)
      brings-done h = b.front.same ∙ ap (λ (x : ℕ). (take to l₀ ++ each g x) ++ drop (to + x) l₀) (here b.within h) ∙ append_assoc (take to l₀) (each g w) (drop (to + w) l₀)
        where
          here : d ≤ w → w ≤ d → d ≡ w
          here a b = omega arith

  -- ---- rows: i of m are brought

  pub record Packs (row : ℕ → List A) (w m : ℕ) (l₀ : List A) (i : ℕ) (l : List A) : Type 0 where
    pub within : i ≤ m
    pub front : Fronts l₀ (joined row i) (i * w) l

  module _ {row : ℕ → List A} {w m : ℕ} {l₀ : List A} where
    pub packs-start : Packs row w m l₀ 0 l₀
    packs-start = record {
      within = omega arith;
      front = record {
        long = ap length (joined-none row) ∙ sym (zero-mul w);
        size = refl;
        same = sym (ap (λ (x : List A). x ++ drop (0 * w) l₀) (joined-none row) ∙ ap (λ (x : ℕ). drop x l₀) (zero-mul w));
      };
    }

    module _ {i : ℕ} {l : List A} (p : Packs row w m l₀ i l) where
      front-survives : take (i * w) l ≡ joined row i
      front-survives = ap (take (i * w)) p.front.same ∙ take_at (joined row i) (drop (i * w) l₀) (i * w) p.front.long

      behind : (q : ℕ) → i * w ≤ q → drop q l ≡ drop q l₀
      behind q h = drop-later l l₀ (i * w) q h (ap (drop (i * w)) p.front.same ∙ drop_at (joined row i) (drop (i * w) l₀) (i * w) p.front.long)

      -- row i stood as R somewhere further on
      pub packs-next : {l' R : List A} → i < m → R ≡ row i → length (row i) ≡ w → length l' ≡ length l → l' ≡ take (i * w) l ++ (R ++ drop (i * w + w) l) → Packs row w m l₀ (i + 1) l'
      packs-next {l'} {R} h e s k u = record {
        within = omega arith;
        front = record {
          long = ap length (joined-next row i) ∙ length-append (joined row i) (row i) ∙ rw (p.front.long, s) (next i);
          size = k ∙ p.front.size;
          same =
              u ∙ rw (front-survives, e, behind (i * w + w) (omega arith)) (sym (append_assoc (joined row i) (row i) (drop (i * w + w) l₀)))
              ∙ ap (λ (x : List A). x ++ drop (i * w + w) l₀) (sym (joined-next row i))
              ∙ ap (λ (x : ℕ). joined row (i + 1) ++ drop x l₀) (next i);
        };
      }
        where
          next : (i : ℕ) → i * w + w ≡ (i + 1) * w
          next i = sym (ap (λ (x : ℕ). x * w) (add-one i) ∙ suc-mul i w)

-- ---- the frames that are kept: where their rows stand

module _ {keep : List ℕ} {n : ℕ} (k : Staying keep n) (w : ℕ) where
  -- row i comes from no lower down
  pub kept-no-lower : (i : ℕ) → i < length keep → i * w ≤ num keep i * w
  kept-no-lower i h = mul-le-mul_right w (k.no_lower i h)

  pub kept-within : (i s : ℕ) → i < length keep → n * w ≤ s → num keep i * w + w ≤ s
  kept-within i s h l = row_in (num keep i) n w s (k.below i h) l

  pub kept-front : (i s : ℕ) → i < length keep → n * w ≤ s → i * w + w ≤ s
  kept-front i s h l = omega (arith, kept-no-lower i h, kept-within i s h l)

  pub kept-all : length keep * w ≤ n * w
  kept-all = mul-le-mul_right w k.few
