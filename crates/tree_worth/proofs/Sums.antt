-- Sums in which one term is one more, or at most one term counts. Assumes nothing.
use mathlib.Core.Path.{◌≡◌, sym, ap, subst, ◌∙◌}
use Prim.Native.Nat.{ℕ, zero, suc, ◌+◌, ◌<◌, ◌≤◌}
use native.Mathlib.Omega.{arith}
use native.Mathlib.Decide.{ℕ_discrete}
use native.Mathlib.Nat.{not-suc-le-zero, mul-zero}
use Rattle.laws.specs.Sums.{sum}
use Rattle.laws.proofs.Sums.{sum_same, sum-const}

-- one term is one more, the others are the same
pub sum-bumped : (f g : ℕ → ℕ) (n k : ℕ) → k < n → g k ≡ f k + 1 → ((b : ℕ) → b < n → (b ≡ k → ⊥) → g b ≡ f b) → sum g n ≡ sum f n + 1
unfolding sum
sum-bumped f g zero k l e s = absurd (not-suc-le-zero l)
sum-bumped f g (suc n) k l e s = elim (ℕ_discrete k n) [
  | yes x ↦
      let a : g n ≡ f n + 1 = subst (λ (y : ℕ). g y ≡ f y + 1) x e in
      let r : sum g n ≡ sum f n = sum_same g f n (λ b lb. s b (omega arith) (λ z. omega (arith, z, x, lb))) in
      omega (arith, a, r)
  | no x ↦
      let a : g n ≡ f n = s n (omega arith) (λ z. x (sym z)) in
      let r : sum g n ≡ sum f n + 1 = sum-bumped f g n k (omega (arith, x, l)) e (λ b lb. s b (omega arith)) in
      omega (arith, a, r)
]

-- a sum that is 0 has no other term
pub sum-nothing : (f : ℕ → ℕ) (n : ℕ) → sum f n ≡ 0 → (b : ℕ) → b < n → f b ≡ 0
unfolding sum
sum-nothing f zero e b l = absurd (not-suc-le-zero l)
sum-nothing f (suc n) e b l = elim (ℕ_discrete b n) [ yes x ↦ rw x (omega (arith, e)) | no x ↦ sum-nothing f n (omega (arith, e)) b (omega (arith, x, l)) ]

-- a term is at most the sum
pub term-le : (f : ℕ → ℕ) (n b : ℕ) → b < n → f b ≤ sum f n
unfolding sum
term-le f zero b l = absurd (not-suc-le-zero l)
term-le f (suc n) b l = elim (ℕ_discrete b n) [ yes x ↦ rw x (omega arith) | no x ↦ omega (arith, term-le f n b (omega (arith, x, l))) ]

-- a sum that is not 0 has a term that is not
pub sum-some : (f : ℕ → ℕ) (n : ℕ) → 0 < sum f n → (b : ℕ) × (b < n) × (0 < f b)
unfolding sum
sum-some f zero h = absurd (not-suc-le-zero h)
sum-some f (suc n) h = elim (ℕ_discrete (f n) 0) [
  | no x ↦ (n, omega arith, omega (arith, x))
  | yes x ↦ (let r : (b : ℕ) × (b < n) × (0 < f b) = sum-some f n (omega (arith, x, h)) in (r.0, omega (arith, r.1), r.2))
]

-- no term above 1, and no two that count
pub sum-one-only : (f : ℕ → ℕ) (n : ℕ) → ((b : ℕ) → b < n → f b ≤ 1) → ((a b : ℕ) → a < n → b < n → 0 < f a → 0 < f b → a ≡ b) → sum f n ≤ 1
unfolding sum
sum-one-only f zero h o = omega arith
sum-one-only f (suc n) h o = elim (ℕ_discrete (f n) 0) [
  | yes x ↦ omega (arith, x, sum-one-only f n (λ b l. h b (omega arith)) (λ a b la lb. o a b (omega arith) (omega arith)))
  | no x ↦
      let r : sum f n ≡ 0 = sum_same f (λ _. 0) n (λ b l. elim (ℕ_discrete (f b) 0) [
        | yes z ↦ z
        | no z ↦
            absurd (apart b l (o b n (omega arith) (omega arith) (omega (arith, z)) (omega (arith, x))))
      ]) ∙ sum-const 0 n ∙ mul-zero n in
      omega (arith, r, h n (omega arith))
]
  where
    apart : (b : ℕ) → b < n → b ≡ n → ⊥
    apart b l e = omega (arith, l, e)

-- one term alone counts
pub sum-at : (f : ℕ → ℕ) (n k : ℕ) → k < n → ((b : ℕ) → b < n → (b ≡ k → ⊥) → f b ≡ 0) → sum f n ≡ f k
unfolding sum
sum-at f zero k l h = absurd (not-suc-le-zero l)
sum-at f (suc n) k l h = elim (ℕ_discrete k n) [
  | yes x ↦
      let r : sum f n ≡ 0 = sum_same f (λ _. 0) n (λ b lb. h b (omega arith) (λ z. omega (arith, z, x, lb))) ∙ sum-const 0 n ∙ mul-zero n in
      let e : f n ≡ f k = ap f (sym x) in
      omega (arith, r, e)
  | no x ↦ omega (arith, h n (omega arith) (λ z. x (sym z)), sum-at f n k (omega (arith, x, l)) (λ b lb. h b (omega arith)))
]

-- two terms that count are two at least
pub sum-two : (f : ℕ → ℕ) (n a b : ℕ) → a < b → b < n → 0 < f a → 0 < f b → 2 ≤ sum f n
unfolding sum
sum-two f zero a b l h x y = absurd (not-suc-le-zero h)
sum-two f (suc n) a b l h x y = elim (ℕ_discrete b n) [
  | yes z ↦ (let e : f b ≡ f n = ap f z in omega (arith, e, x, y, term-le f n a (omega (arith, l, z))))
  | no z ↦ omega (arith, sum-two f n a b l (omega (arith, h, z)) x y)
]
