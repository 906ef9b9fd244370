-- A pass over the first n places of an area, each changed by itself: it leaves what lies past them alone, and a sum over them does not see it. Assumes nothing.
use mathlib.Core.Path.{◌≡◌, refl, ap, ◌∙◌}
use mathlib.Core.List.{List, ◌++◌}
use Prim.Native.Nat.{ℕ, zero, suc, ◌+◌, ◌≤◌}
use native.Mathlib.Omega.{arith}
use lib.ListN.{length, get_or, set, length-set, get_or-append}
use lib.Seq.{set-append_left}
use Rattle.laws.specs.Loops.{loop}
use Rattle.laws.proofs.Loops.{loop-same}

module _ {A : Type 0} (d : A) where
  module _ (g : ℕ → A → A) where
    -- place k is changed by g k
    abbrev pub change : ℕ → List A → List A
    change k l = set l k (g k (get_or l k d))

    size-from : (n k : ℕ) (l : List A) → length (loop change n k l) ≡ length l
    unfolding loop
    size-from zero k l = refl
    size-from (suc n) k l = size-from n (k + 1) (change k l) ∙ length-set l k (g k (get_or l k d))

    past-from : (n k : ℕ) (l t : List A) → k + n ≤ length l → loop change n k (l ++ t) ≡ loop change n k l ++ t
    unfolding loop
    past-from zero k l t h = refl
    past-from (suc n) k l t h =
        ap (loop change n (k + 1)) (ap (λ (x : A). set (l ++ t) k (g k x)) (get_or-append l t d k (omega arith)) ∙ set-append_left l t k (g k (get_or l k d)) (omega arith))
        ∙ past-from n (k + 1) (change k l) t (omega (arith, length-set l k (g k (get_or l k d))))

    pub changed-size : (n : ℕ) (l : List A) → length (loop change n 0 l) ≡ length l
    changed-size n l = size-from n 0 l

    pub changed-past : (n : ℕ) (l t : List A) → n ≤ length l → loop change n 0 (l ++ t) ≡ loop change n 0 l ++ t
    changed-past n l t h = past-from n 0 l t (omega arith)

  pub summed-past : {B : Type 0} (h : B → A → B) (n : ℕ) (l t : List A) (x : B) → n ≤ length l → loop (λ k s. h s (get_or (l ++ t) k d)) n 0 x ≡ loop (λ k s. h s (get_or l k d)) n 0 x
  summed-past h n l t x e = loop-same (λ k s. h s (get_or (l ++ t) k d)) (λ k s. h s (get_or l k d)) n 0 x (λ j s a b. ap (h s) (get_or-append l t d j (omega arith)))
