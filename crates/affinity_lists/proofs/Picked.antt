-- Laws of the numbers that a test picks: how many they are, and where those below i end. Assumes nothing.
use mathlib.Core.Path.{◌≡◌, ap, subst}
use mathlib.Core.Logic.{⊎_elim}
use mathlib.Core.Bool.{Bool, true, false, ◌&&◌}
use Prim.Native.Nat.{ℕ, zero, suc, ◌+◌, ◌-◌, ◌<◌, ◌≤◌}
use native.Mathlib.Omega.{arith}
use native.Mathlib.Decide.{dec_lt}
use native.Mathlib.Nat.{le_refl, mul-one, add-zero}
use lib.Dec.{eqb, ltb}
use lib.ListN.{length, length-append}
use mathlib.Core.List.{[], ◌∷◌}
use Rattle.laws.specs.Loops.{first}
use Rattle.laws.specs.Area.{num}
use Rattle.laws.specs.Sums.{bit}
use Rattle.laws.specs.Joined.{those}
use Rattle.laws.proofs.Bools.{two}
use Rattle.laws.proofs.Sums.{sum_same, sum-const, sum-le, bit_le, row-sum}
use Rattle.laws.proofs.Joined.{length-those, those-yes, those-no, those-below, those-holds, those-rise, those-at}

module _ (p : ℕ → Bool) where
  -- no more than there are numbers
  pub those-most : (n : ℕ) → length (those p n) ≤ n
  those-most n = omega (arith, length-those p n, sum-le (λ j. bit (p j)) (λ j. 1) n (λ j l. bit_le (p j)), sum-const 1 n, mul-one n)

  those-grow : (n : ℕ) → length (those p n) ≤ length (those p (n + 1))
  those-grow n = ⊎_elim
      (λ e. omega (arith, ap length (those-yes p n e), length-append (those p n) (n ∷ [])))
      (λ e. omega (arith, ap length (those-no p n e)))
      (two (p n))

  those-mono : (i d : ℕ) → length (those p i) ≤ length (those p (i + d))
  those-mono i zero = omega (arith, ap (λ (x : ℕ). length (those p x)) (add-zero i))
  those-mono i (suc d) = omega (arith, those-mono i d, those-grow (i + d), ap (λ (x : ℕ). length (those p x)) (shift i d))
    where
      shift : (i d : ℕ) → i + d + 1 ≡ i + suc d
      shift i d = omega arith

  -- c rising numbers below m of which the test holds are among those picked
  pub those-least : (f : ℕ → ℕ) (c m : ℕ) → ((t : ℕ) → t < c → f t < m) → ((s t : ℕ) → s < t → t < c → f s < f t) → ((t : ℕ) → t < c → p (f t) ≡ true) → c ≤ length (those p m)
  unfolding bit
  those-least f c m inside rise holds = omega (
    arith,
    length-those p m,
    sum-le (λ i. bit (ltb (first (λ t. eqb (f t) i) c) c && p i)) (λ i. bit (p i)) m (λ i l. less (ltb (first (λ t. eqb (f t) i) c) c) (p i)),
    row-sum f p c m inside rise,
    sum_same (λ t. bit (p (f t))) (λ t. 1) c (λ t l. ap bit (holds t l)),
    sum-const 1 c,
    mul-one c,
  )
    where
      less : (a b : Bool) → bit (a && b) ≤ bit b
      less true b = le_refl (bit b)
      less false b = omega arith

  module _ (n i : ℕ) where
    -- a number stands after those below it
    spot : (t : ℕ) → t < length (those p n) → t ≡ length (those p (num (those p n) t))
    spot t l =
        let x = num (those p n) t in
        let s = those-at p n x (those-below p n t l) (those-holds p n t l) in
        elim (dec_lt t (length (those p x))) [
          | yes m ↦ absurd (omega (arith, s.1, those-rise p n t (length (those p x)) m s.0))
          | no m ↦ elim (dec_lt (length (those p x)) t) [
            | yes h ↦ absurd (omega (arith, s.1, those-rise p n (length (those p x)) t h l))
            | no h ↦ omega arith
          ]
        ]

    -- so those below i stand first
    pub those-under : (t : ℕ) → t < length (those p n) → t < length (those p i) → num (those p n) t < i
    those-under t l m = elim (dec_lt (num (those p n) t) i) [
      | yes h ↦ h
      | no h ↦ absurd (omega (arith, spot t l, those-mono i (num (those p n) t - i), ap (λ (x : ℕ). length (those p x)) (back (num (those p n) t) h)))
    ]
      where
        back : (x : ℕ) → (x < i → ⊥) → i + (x - i) ≡ x
        back x h = omega arith

    pub those-over : (t : ℕ) → length (those p i) ≤ t → t < length (those p n) → i ≤ num (those p n) t
    those-over t m l = elim (dec_lt (num (those p n) t) i) [
      | yes h ↦ absurd (omega (arith, spot t l, (those-at p i (num (those p n) t) h (those-holds p n t l)).0))
      | no h ↦ omega arith
    ]

    pub those-front : i ≤ n → length (those p i) ≤ length (those p n)
    those-front h = subst (λ (x : ℕ). length (those p i) ≤ length (those p x)) (whole h) (those-mono i (n - i))
      where
        whole : i ≤ n → i + (n - i) ≡ n
        whole h = omega arith
