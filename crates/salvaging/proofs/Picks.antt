-- Where a picked number stands among those that a test picks, and the front of lists one after the other. Assumes nothing.
use mathlib.Core.Path.{◌≡◌, refl, sym, ap, subst, ◌∙◌}
use mathlib.Core.List.{List, []}
use mathlib.Core.Bool.{Bool, false}
use Prim.Native.Nat.{ℕ, zero, suc, ◌<◌, ◌≤◌}
use native.Mathlib.Omega.{arith}
use native.Mathlib.Decide.{ℕ_discrete, dec_lt}
use native.Mathlib.Numerals.{add-one}
use lib.ListN.{length, take}
use lib.Seq.{take-length, take-append-le}
use Rattle.laws.specs.Area.{num}
use Rattle.laws.specs.Joined.{those, joined}
use Rattle.laws.proofs.Joined.{those-no, those-at, those-below, those-holds, those-rise, joined-mono}

module _ (p : ℕ → Bool) where
  -- the number at place t has t before it
  pub those-count : (n t : ℕ) → t < length (those p n) → length (those p (num (those p n) t)) ≡ t
  those-count n t l =
      let i = num (those p n) t in
      let c = length (those p i) in
      let a = those-at p n i (those-below p n t l) (those-holds p n t l) in
      elim (dec_lt c t) [
        | yes m ↦ absurd (omega (arith, a.1, those-rise p n c t m l))
        | no m ↦ elim (dec_lt t c) [ yes k ↦ absurd (omega (arith, a.1, those-rise p n t c k a.0)) | no k ↦ omega arith ]
      ]

  -- more numbers looked at leave the first places as they are
  pub those-prefix : (i n t : ℕ) → i ≤ n → t < length (those p i) → num (those p n) t ≡ num (those p i) t
  those-prefix i n t h l =
      let m = num (those p i) t in
      ap (num (those p n)) (sym (those-count i t l)) ∙ (those-at p n m (omega (arith, those-below p i t l)) (those-holds p i t l)).1

  pub those-empty : (n : ℕ) → ((i : ℕ) → i < n → p i ≡ false) → those p n ≡ []
  unfolding those
  those-empty zero h = refl
  those-empty (suc n) h = ap (those p) (sym (add-one n)) ∙ those-no p n (h n (omega arith)) ∙ those-empty n (λ i l. h i (omega arith))

module _ {A : Type 0} (f : ℕ → List A) where
  -- the first q of n lists stand at the front
  pub joined-front : (q n : ℕ) → q ≤ n → take (length (joined f q)) (joined f n) ≡ joined f q
  unfolding joined
  joined-front q zero h = subst (λ (x : ℕ). take (length (joined f x)) (joined f 0) ≡ joined f x) (nil q h) refl
    where
      nil : (q : ℕ) → q ≤ 0 → 0 ≡ q
      nil q h = omega arith
  joined-front q (suc n) h = elim (ℕ_discrete q (suc n)) [
    | yes e ↦ subst (λ (x : ℕ). take (length (joined f q)) (joined f x) ≡ joined f q) e (take-length (joined f q))
    | no d ↦ take-append-le (length (joined f q)) (joined f n) (f n) (joined-mono f q n (omega arith)) ∙ joined-front q n (omega arith)
  ]
