-- What the digits that `io` spells are: the fewest of a number in decimal, and 16 in hex. Assumes nothing.
use mathlib.Core.Path.{◌≡◌, sym, ap, subst, ◌∙◌}
use Prim.Native.Nat.{ℕ, ◌+◌, ◌-◌, ◌^◌, ◌<◌, ◌≤◌}
use native.Mathlib.Omega.{arith}
use native.Mathlib.Decide.{dec_lt}
use native.Mathlib.Nat.{le_antisymm, le_trans, pow-le-pow_right}
use mathlib.Core.List.{List}
use lib.Dec.{ltb}
use lib.ListN.{length}
use borrow.Author.Tests.{lt-ltb, le-ltb}
use Rattle.io.specs.Digits.{last_digits, IsDigitCount}
use Rattle.laws.proofs.First.{first-at}
use Rattle.text.specs.Text.{decimals, decimal_of, hex_of, Puts}

fewest-decimals : (n k : ℕ) → k ≤ 20 → IsDigitCount 10 1 n k → k ≡ decimals n
unfolding decimals
fewest-decimals n k h f =
    let e : k ≡ (k - 1) + 1 = omega (arith, f.0) in
    e ∙ ap (λ (x : ℕ). x + 1) (sym (first-at (λ k. ltb n (10 ^ (k + 1))) 20 (k - 1) (omega (arith, f.0))
    (lt-ltb n (10 ^ (k - 1 + 1)) (le_trans f.1 (powers (omega arith)))) (λ s l. le-ltb n (10 ^ (s + 1))
    (le_trans (powers (omega arith)) (f.2 (omega arith))))))
  where
    powers : {i j : ℕ} → i ≤ j → 10 ^ i ≤ 10 ^ j
    powers m = pow-le-pow_right (omega arith) m

-- where `most` digits hold n, the fewest are no more
fewest-most : (b least n k most : ℕ) → 0 < b → IsDigitCount b least n k → least ≤ most → n < b ^ most → k ≤ most
fewest-most b least n k most h f m e = elim (dec_lt most k) [
  | yes l ↦ absurd (omega (arith, e, f.2 (omega arith), over l))
  | no l ↦ omega arith
]
  where
    over : most < k → b ^ most ≤ b ^ (k - 1)
    over l = pow-le-pow_right h (omega arith)

pub decimal-room : (n k : ℕ) → n < 2 ^ 64 → IsDigitCount 10 1 n k → k ≤ 20
decimal-room n k h f = fewest-most 10 1 n k 20 (omega arith) f (omega arith) (omega arith)

pub hex-room : (n k : ℕ) → n < 2 ^ 64 → IsDigitCount 16 16 n k → k ≤ 16
hex-room n k h f = fewest-most 16 16 n k 16 (omega arith) f (omega arith) (omega arith)

-- ---- k digits w are put

module _ {n k a r : ℕ} {w l m : List ℕ} (p : Puts w a l r m) (size : k ≡ length w) (h : n < 2 ^ 64) where
  pub decimal-put : IsDigitCount 10 1 n k → w ≡ last_digits 10 k n → Puts (decimal_of n) a l r m × (r ≤ a + 20)
  unfolding decimal_of
  decimal-put f e = (subst (λ (x : List ℕ). Puts x a l r m) (e ∙ ap (λ (x : ℕ). last_digits 10 x n) (fewest-decimals n k (decimal-room n k h f) f)) p, omega (arith, p.place, decimal-room n k h f))

  pub hex-put : IsDigitCount 16 16 n k → w ≡ last_digits 16 k n → Puts (hex_of n) a l r m × (r ≤ a + 16)
  unfolding hex_of
  hex-put f e = (subst (λ (x : List ℕ). Puts x a l r m) (e ∙ ap (λ (x : ℕ). last_digits 16 x n) (le_antisymm (hex-room n k h f) f.0)) p, omega (arith, p.place, hex-room n k h f))
