-- Laws of sums of natural numbers, and of tests counted as 0 or 1. Assumes nothing.
use mathlib.Core.Path.{◌≡◌, refl, sym, ap, subst, ◌∙◌}
use mathlib.Core.Bool.{Bool, true, false, cond, not, ◌||◌, ◌&&◌}
use Prim.Native.Nat.{ℕ, zero, suc, ◌+◌, ◌*◌, ◌<◌, ◌≤◌}
use native.Mathlib.Omega.{arith}
use native.Mathlib.Decide.{ℕ_discrete}
use native.Mathlib.Numerals.{add-one}
use native.Mathlib.Nat.{le_refl, le_antisymm, not-suc-le-zero, suc-mul, zero-mul, mul-zero}
use lib.Dec.{eqb, ltb}
use borrow.Author.Tests.{eq-eqb, ne_eqb, ltb-true, eqb-true}
use Rattle.laws.specs.Loops.{seek, first}
use Rattle.laws.specs.Sums.{sum, bit}
use Rattle.laws.proofs.Numbers.{row_in}
use Rattle.laws.proofs.First.{first-suc, first_holds}

pub sum-none : (f : ℕ → ℕ) → sum f 0 ≡ 0
unfolding sum
sum-none f = refl

pub sum-next : (f : ℕ → ℕ) (n : ℕ) → sum f (n + 1) ≡ sum f n + f n
unfolding sum
sum-next f n = rw (add-one n)

pub sum_same : (f g : ℕ → ℕ) (n : ℕ) → ((i : ℕ) → i < n → f i ≡ g i) → sum f n ≡ sum g n
unfolding sum
sum_same f g zero h = refl
sum_same f g (suc n) h = rw (sum_same f g n (λ i l. h i (omega arith)), h n (omega arith))

pub sum-add : (f g : ℕ → ℕ) (n : ℕ) → sum (λ i. f i + g i) n ≡ sum f n + sum g n
unfolding sum
sum-add f g zero = refl
sum-add f g (suc n) = omega (arith, sum-add f g n)

pub sum-const : (k n : ℕ) → sum (λ i. k) n ≡ n * k
unfolding sum
sum-const k zero = sym (zero-mul k)
sum-const k (suc n) = omega (arith, sum-const k n, suc-mul n k)

pub sum-swap : (f : ℕ → ℕ → ℕ) (n m : ℕ) → sum (λ i. sum (λ j. f i j) m) n ≡ sum (λ j. sum (λ i. f i j) n) m
unfolding sum
sum-swap f zero m = sym (sum-const 0 m ∙ mul-zero m)
sum-swap f (suc n) m = ap (λ (x : ℕ). x + sum (λ j. f n j) m) (sum-swap f n m) ∙ sym (sum-add (λ j. sum (λ i. f i j) n) (λ j. f n j) m)

pub sum-le : (f g : ℕ → ℕ) (n : ℕ) → ((i : ℕ) → i < n → f i ≤ g i) → sum f n ≤ sum g n
unfolding sum
sum-le f g zero h = le_refl 0
sum-le f g (suc n) h = omega (arith, sum-le f g n (λ i l. h i (omega arith)), h n (omega arith))

-- ---- the loop that adds: k terms are added, at most b each

pub record Adds (f : ℕ → ℕ) (b n k c : ℕ) : Type 0 where
  pub within : k ≤ n
  pub same : c ≡ sum f k
  pub most : c ≤ k * b

module _ {f : ℕ → ℕ} {b n : ℕ} where
  pub adds-start : Adds f b n 0 0
  adds-start = record { within = omega arith; same = sym (sum-none f); most = omega arith }

  pub adds-next : {k c v : ℕ} → v ≡ f k → f k ≤ b → k < n → Adds f b n k c → Adds f b n (k + 1) (c + v)
  adds-next {k} {c} {v} e h l a = record {
    within = omega arith;
    same = omega (arith, e, a.same, sum-next f k);
    most = omega (arith, e, h, a.most, ap (λ (m : ℕ). m * b) (add-one k), suc-mul k b);
  }

  pub adds-room : {k c : ℕ} → f k ≤ b → k < n → Adds f b n k c → c + f k ≤ n * b
  adds-room {k} {c} h l a = omega (arith, h, a.most, row_in k n b (n * b) l (le_refl (n * b)))

  pub adds-done : {k c : ℕ} → n ≤ k → Adds f b n k c → (c ≡ sum f n) × (c ≤ n * b)
  adds-done {k} {c} h a = let e : k ≡ n = le_antisymm a.within h in (a.same ∙ ap (sum f) e, subst (λ (m : ℕ). c ≤ m * b) e a.most)

-- ---- tests counted as 0 or 1

pub bit_le : (b : Bool) → bit b ≤ 1
unfolding bit
bit_le true = omega arith
bit_le false = omega arith

bit_or : (a b g : Bool) → (a ≡ true → b ≡ true → ⊥) → bit ((a || b) && g) ≡ bit (a && g) + bit (b && g)
unfolding bit
bit_or true true g h = absurd (h refl refl)
bit_or true false g h = omega arith
bit_or false true g h = omega arith
bit_or false false g h = omega arith

pub bit-next : (a b : Bool) → bit (a || b) ≡ bit a + bit (b && not a)
unfolding bit
bit-next true true = refl
bit-next true false = refl
bit-next false true = refl
bit-next false false = refl

pub bit-left : (a b : Bool) → bit a ≤ bit (a || b)
unfolding bit
bit-left true b = le_refl 1
bit-left false b = omega arith

pub bit-miss : (a : Bool) → bit (not a) ≡ cond a 0 1
unfolding bit
bit-miss true = refl
bit-miss false = refl

pub bit-and-true : (a : Bool) → bit a ≡ bit (a && true)
bit-and-true true = refl
bit-and-true false = refl

-- a sum in which only the number v counts
sum-out : (v n : ℕ) (g : ℕ → Bool) → n ≤ v → sum (λ i. bit (eqb v i && g i)) n ≡ 0
unfolding sum bit
sum-out v zero g h = refl
sum-out v (suc n) g h = rw (ne_eqb v n (λ e. omega arith), sum-out v n g (omega arith))

sum_one : (v n : ℕ) (g : ℕ → Bool) → v < n → sum (λ i. bit (eqb v i && g i)) n ≡ bit (g v)
unfolding sum bit
sum_one v zero g h = absurd (not-suc-le-zero h)
sum_one v (suc n) g h = elim (ℕ_discrete v n) [
  | yes e ↦ subst (λ (x : ℕ). sum (λ i. bit (eqb v i && g i)) n + bit (eqb v x && g x) ≡ bit (g v)) e (omega (arith, sum-out v n g (omega arith), same))
  | no d ↦ omega (arith, sum_one v n g (omega arith), other d)
]
  where
    same : bit (eqb v v && g v) ≡ bit (g v)
    same = rw (eq-eqb v v refl)

    other : (v ≡ n → ⊥) → bit (eqb v n && g n) ≡ 0
    other d = rw (ne_eqb v n d)

-- what is summed over the numbers that a rising row r names is summed over the places of the row
pub row-sum : (r : ℕ → ℕ) (g : ℕ → Bool) (k n : ℕ) → ((t : ℕ) → t < k → r t < n) → ((s t : ℕ) → s < t → t < k → r s < r t)
    → sum (λ i. bit (ltb (first (λ t. eqb (r t) i) k) k && g i)) n ≡ sum (λ t. bit (g (r t))) k
unfolding sum seek bit
row-sum r g zero n h m = sum_same (λ i. bit (ltb 0 0 && g i)) (λ i. 0) n (λ i l. refl) ∙ sum-const 0 n ∙ mul-zero n
row-sum r g (suc k) n h m =
    sum_same (λ i. bit (ltb (first (λ t. eqb (r t) i) (suc k)) (suc k) && g i)) (λ i. bit (ltb (first (λ t. eqb (r t) i) k) k && g i) + bit (eqb (r k) i && g i)) n
    (λ i l. rw (first-suc (λ t. eqb (r t) i) k) (bit_or (ltb (first (λ t. eqb (r t) i) k) k) (eqb (r k) i) (g i) (λ a b. apart i a b)))
    ∙ sum-add (λ i. bit (ltb (first (λ t. eqb (r t) i) k) k && g i)) (λ i. bit (eqb (r k) i && g i)) n
    ∙ ap (λ (x : ℕ). x + sum (λ i. bit (eqb (r k) i && g i)) n) (row-sum r g k n (λ t l. h t (omega arith)) (λ s t a b. m s t a (omega arith)))
    ∙ ap (λ (x : ℕ). sum (λ t. bit (g (r t))) k + x) (sum_one (r k) n g (h k (omega arith)))
  where
    apart : (i : ℕ) → ltb (first (λ t. eqb (r t) i) k) k ≡ true → eqb (r k) i ≡ true → ⊥
    apart i a b =
        let f = first (λ t. eqb (r t) i) k in
        let l : f < k = ltb-true f k a in
        omega (arith, m f k l (omega arith), eqb-true (r f) i (first_holds (λ t. eqb (r t) i) k l), eqb-true (r k) i b)
