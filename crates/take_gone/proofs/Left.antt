-- Those that are taken out and those that are left: how many there are, and that both lists rise. Assumes nothing.
use mathlib.Core.Path.{◌≡◌, refl, sym, ap, subst, ◌∙◌}
use mathlib.Core.List.{List, ◌++◌}
use mathlib.Core.Bool.{Bool, true, false, not, ◌&&◌, ◌||◌}
use Prim.Native.Nat.{ℕ, zero, suc, ◌+◌, ◌-◌, ◌<◌, ◌≤◌}
use native.Mathlib.Omega.{arith}
use native.Mathlib.Decide.{dec_lt}
use native.Mathlib.Nat.{mul-one, not-suc-le-zero}
use lib.Dec.{eqb, ltb}
use lib.ListN.{length, drop, set}
use borrow.Author.Tests.{ne_eqb, ltb-true, lt-ltb, le-ltb}
use Rattle.laws.specs.Area.{num}
use Rattle.laws.specs.Sums.{sum, bit}
use Rattle.laws.proofs.Every.{every-at}
use Rattle.laws.proofs.Bools.{and_left, and_right}
use Rattle.laws.proofs.Joined.{length-those, those-rise, those-yes, those-no, those-none, spot_yes, spot_no}
use Rattle.laws.proofs.Sums.{row-sum, sum_same, sum-add, sum-const, sum-le, bit_le, bit-and-true}
use Rattle.take_gone.specs.Gone.{stands_at, is_among, gone_fine_at, gone_fine, survivors, Climbs}
use Rattle.take_gone.proofs.Fronts.{Fronts, fronts-start, fronts-next, fronts-as}

-- ---- what the test of the list says

module _ (g : List ℕ) (n : ℕ) (f : gone_fine g n ≡ true) where
  pub gone-below : (t : ℕ) → t < length g → num g t < n
  unfolding gone_fine_at
  gone-below t h = ltb-true (num g t) n (and_right (eqb t 0 || ltb (num g (t - 1)) (num g t)) (ltb (num g t) n) (every-at (gone_fine_at g n) (length g) f t h))

  next : (t : ℕ) → suc t < length g → num g t < num g (suc t)
  unfolding gone_fine_at
  next t h =
      let b : (eqb (suc t) 0 || ltb (num g (suc t - 1)) (num g (suc t))) ≡ true = and_left (eqb (suc t) 0 || ltb (num g (suc t - 1)) (num g (suc t)))
      (ltb (num g (suc t)) n) (every-at (gone_fine_at g n) (length g) f (suc t) h) in
      subst (λ (x : ℕ). num g x < num g (suc t)) (minus t) (ltb-true (num g (suc t - 1)) (num g (suc t)) (rw (ne_eqb (suc t) 0 (λ e. omega arith)) at b))
    where
      minus : (t : ℕ) → suc t - 1 ≡ t
      minus t = omega arith

  climbing : (s t : ℕ) → s < t → t < length g → num g s < num g t
  climbing s zero h l = absurd (not-suc-le-zero h)
  climbing s (suc t) h l = elim (dec_lt s t) [
    | yes a ↦ omega (arith, climbing s t a (omega arith), next t l)
    | no a ↦ subst (λ (x : ℕ). num g x < num g (suc t)) (last s t h a) (next t l)
  ]
    where
      last : (s t : ℕ) → s < suc t → (s < t → ⊥) → t ≡ s
      last s t h a = omega arith

  pub gone-climbs : Climbs g
  gone-climbs = record { climb = climbing }

  -- so many are among the first n as the list has
  gone-count : sum (λ j. bit (is_among g j)) n ≡ length g
  unfolding bit
  gone-count =
      sum_same (λ j. bit (is_among g j)) (λ j. bit (is_among g j && true)) n (λ j h. bit-and-true (is_among g j))
      ∙ row-sum (num g) (λ j. true) (length g) n gone-below climbing
      ∙ sum-const 1 (length g) ∙ mul-one (length g)

  either : (b : Bool) → bit (not b) + bit b ≡ 1
  unfolding bit
  either true = refl
  either false = refl

  pub survivors-count : length (survivors g n) + length g ≡ n
  survivors-count =
      ap (λ (x : ℕ). x + length g) (length-those (λ j. not (is_among g j)) n)
      ∙ ap (λ (x : ℕ). sum (λ j. bit (not (is_among g j))) n + x) (sym gone-count)
      ∙ sym (sum-add (λ j. bit (not (is_among g j))) (λ j. bit (is_among g j)) n)
      ∙ sum_same (λ j. bit (not (is_among g j)) + bit (is_among g j)) (λ j. 1) n (λ j h. either (is_among g j))
      ∙ sum-const 1 n ∙ mul-one n

-- ---- those that are left

pub survivors-few : (g : List ℕ) (n : ℕ) → length (survivors g n) ≤ n
survivors-few g n = omega (arith, length-those (λ j. not (is_among g j)) n, sum-le (λ j. bit (not (is_among g j))) (λ j. 1) n (λ j h. bit_le (not (is_among g j))), sum-const 1 n, mul-one n)

pub survivors-climb : (g : List ℕ) (n : ℕ) → Climbs (survivors g n)
survivors-climb g n = record { climb = those-rise (λ j. not (is_among g j)) n }

-- a sample is left where it is not taken out
pub left-among : (g : List ℕ) (n j : ℕ) → j < n → is_among (survivors g n) j ≡ not (is_among g j)
left-among g n j h = by (is_among g j) refl
  where
    p : ℕ → Bool
    p j = not (is_among g j)

    by : (b : Bool) → is_among g j ≡ b → is_among (survivors g n) j ≡ not b
    by true e = le-ltb (stands_at (survivors g n) j) (length (survivors g n)) (omega (arith, spot_no p n j (ap not e)))
    by false e = lt-ltb (stands_at (survivors g n) j) (length (survivors g n)) (spot_yes p n j h (ap not e))

-- ---- the loop that writes them: those below j are written, q of them

pub record Surviving (g : List ℕ) (n : ℕ) (old₀ : List ℕ) (q j : ℕ) (old : List ℕ) : Type 0 where
  pub within : j ≤ n
  pub front : Fronts old₀ (survivors g j) q old

module _ {g : List ℕ} {n : ℕ} {old₀ : List ℕ} where
  pub surviving-start : Surviving g n old₀ 0 0 old₀
  surviving-start = record { within = omega arith; front = fronts-as (sym (those-none (λ j. not (is_among g j)))) (fronts-start old₀) }

  module _ {q j : ℕ} {old : List ℕ} (s : Surviving g n old₀ q j old) where
    pub surviving-room : j < n → n ≤ length old₀ → q < length old₀
    surviving-room h l = omega (arith, s.front.long, survivors-few g j)

    pub surviving-pass : j < n → is_among g j ≡ true → Surviving g n old₀ q (j + 1) old
    surviving-pass h e = record { within = omega arith; front = fronts-as (sym (those-no (λ j. not (is_among g j)) j (ap not e))) s.front }

    pub surviving-next : j < n → n ≤ length old₀ → is_among g j ≡ false → Surviving g n old₀ (q + 1) (j + 1) (set old q j)
    surviving-next h l e = record { within = omega arith; front = fronts-as (sym (those-yes (λ j. not (is_among g j)) j (ap not e))) (fronts-next j (surviving-room h l) s.front) }

    pub surviving-done : n ≤ j → (q ≡ length (survivors g n)) × (old ≡ survivors g n ++ drop (length (survivors g n)) old₀)
    surviving-done h = (
      sym s.front.long ∙ ap (λ (x : ℕ). length (survivors g x)) here,
      s.front.same ∙
          ap (λ (x : ℕ). survivors g j ++ drop x old₀) (sym s.front.long) ∙ ap (λ (x : ℕ). survivors g x ++ drop (length (survivors g x)) old₀) here,
    )
      where
        here : j ≡ n
        here = omega (arith, s.within)
