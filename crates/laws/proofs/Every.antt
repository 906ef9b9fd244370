-- A test of all numbers below n: the loop that makes it, and what it says. Assumes nothing.
use mathlib.Core.Path.{◌≡◌, refl, sym, ◌∙◌}
use mathlib.Core.Logic.{⊎_elim}
use mathlib.Core.Bool.{Bool, true, false, ◌&&◌, true≢false}
use Prim.Native.Nat.{ℕ, zero, suc, ◌+◌, ◌<◌, ◌≤◌}
use native.Mathlib.Omega.{arith}
use native.Mathlib.Numerals.{add-one}
use native.Mathlib.Nat.{eq-or-lt_of_le, le_of_suc-le-suc, not-suc-le-zero, le_antisymm}
use Rattle.laws.specs.Loops.{every}
use Rattle.laws.proofs.Bools.{and_left, and_right, not-true-is}

pub every-none : (p : ℕ → Bool) → every p 0 ≡ true
unfolding every
every-none p = refl

-- one number more
pub every-step : (p : ℕ → Bool) (n : ℕ) → every p (n + 1) ≡ every p n && p n
unfolding every
every-step p n = rw (add-one n)

pub every-next : (p : ℕ → Bool) (n : ℕ) → every p n ≡ true → p n ≡ true → every p (n + 1) ≡ true
unfolding every
every-next p n e h = rw (add-one n, e, h)

pub every-done : (p : ℕ → Bool) (n k : ℕ) → every p k ≡ true → k ≤ n → n ≤ k → true ≡ every p n
every-done p n k e l m = rw (le_antisymm m l) (sym e)

pub every-at : (p : ℕ → Bool) (n : ℕ) → every p n ≡ true → (k : ℕ) → k < n → p k ≡ true
unfolding every
every-at p zero e k h = absurd (not-suc-le-zero h)
every-at p (suc n) e k h = ⊎_elim (λ q. rw q (and_right (every p n) (p n) e)) (λ l. every-at p n (and_left (every p n) (p n) e) k l) (eq-or-lt_of_le (le_of_suc-le-suc h))

pub every-all : (p : ℕ → Bool) (n : ℕ) → ((k : ℕ) → k < n → p k ≡ true) → every p n ≡ true
unfolding every
every-all p zero h = refl
every-all p (suc n) h = rw (every-all p n (λ k l. h k (omega arith)), h n (omega arith))

pub every-no : (p : ℕ → Bool) (n k : ℕ) → k < n → p k ≡ false → every p n ≡ false
every-no p n k h e = not-true-is (λ t. true≢false (sym (every-at p n t k h) ∙ e))

pub every-same : (p q : ℕ → Bool) (n : ℕ) → ((k : ℕ) → k < n → p k ≡ q k) → every p n ≡ every q n
unfolding every
every-same p q zero h = refl
every-same p q (suc n) h = rw (every-same p q n (λ k l. h k (omega arith)), h n (omega arith))
