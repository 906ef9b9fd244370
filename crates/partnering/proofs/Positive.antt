-- A double that is finite, not negative and not zero is finite and above zero as the rules test it. Assumes nothing.
use mathlib.Core.Path.{◌≡◌, refl, sym, ap, subst, ◌∙◌}
use mathlib.Core.Bool.{Bool, true, false, ◌&&◌, true≢false}
use Prim.Native.Nat.{ℕ, zero, suc, ◌+◌, ◌-◌, ◌*◌, ◌%◌, ◌^◌, ◌<◌, ◌≤◌}
use native.Mathlib.Omega.{arith}
use native.Mathlib.Decide.{dec_le}
use native.Mathlib.Nat.{mul-le-mul, mul_assoc, mul-one, mul-pos, le_trans, lt_of_mul-lt-mul_right, zero-mul}
use lib.IntN.{ℤ, pos, negsuc}
use lib.Dec.{T, eqb, ltb, leb, lit≤, ltb→lt}
use lib.Pow.{pow-add, pow_pos, pow_mono}
use lib.Ieee.{Float, nan, inf, fin, binary64, up, down, lt, le, eq, fits, of_bits}
use lib.Ieee.Fits.{and_r}
use lib.Ieee.Order.{le_of_values}
use borrow.Author.Tests.{lt-ltb}
use Rattle.laws.specs.Area.{zero64}
use Rattle.elementary.specs.Limits.{not_negative}
use Rattle.elementary.proofs.Near.{digits}
use Rattle.run_record.specs.Record.{largest, positive}

zero_is : zero64 ≡ fin false 0 (pos 0)
unfolding of_bits
zero_is = refl

-- the largest double is 2^53 − 1 times 2^971
largest-is : largest ≡ fin false 9007199254740991 (pos 971)
unfolding of_bits
largest-is = refl

abbrev most : ℕ
most = 9007199254740991 * 2 ^ 971

is_true : (b : Bool) → T b → b ≡ true
is_true true h = refl
is_true false h = absurd h

size_fits : (m : ℕ) (e : ℤ) → T (fits binary64 (fin false m e)) → (0 < m) → m * up e < 2 ^ 1024 * down e
unfolding fits
size_fits zero e h l = absurd (omega arith)
size_fits (suc m) e h l = ltb→lt (suc m * up e) (2 ^ 1024 * down e) (and_r (eqb (suc m % 2) 1 && ltb (suc m) (2 ^ 53) && leb (down e) (2 ^ 1074)) (ltb (suc m * up e) (2 ^ 1024 * down e)) h)

-- no finite double is larger
within : (m : ℕ) (e : ℤ) → T (fits binary64 (fin false m e)) → 0 < m → m * up e ≤ most * down e
within m (pos k) h l =
    let small : m ≤ 9007199254740991 = omega (arith, (digits false m (pos k) h).0) in
    elim (dec_le k 971) [
      | yes q ↦ subst (λ (x : ℕ). m * 2 ^ k ≤ x) (sym (mul-one most)) (mul-le-mul small (pow_mono q))
      | no q ↦ (let d = k - 971 in
          let split : m * 2 ^ k ≡ m * 2 ^ d * 2 ^ 971 = ap (λ (x : ℕ). m * 2 ^ x) (parts k q) ∙ ap (λ (x : ℕ). m * x) (pow-add 2 (k - 971) 971) ∙ sym (mul_assoc m (2 ^ (k - 971)) (2 ^ 971)) in
          let below : m * 2 ^ d * 2 ^ 971 < 2 ^ 53 * 2 ^ 971 = subst (λ (x : ℕ). x < 2 ^ 53 * 2 ^ 971) split (size_fits m (pos k) h l) in
          let less : m * 2 ^ d < 2 ^ 53 = lt_of_mul-lt-mul_right (2 ^ 971) below in
          let few : m * 2 ^ d ≤ 9007199254740991 = omega (arith, less) in
          subst (λ (x : ℕ). m * 2 ^ k ≤ x) (sym (mul-one most)) (subst (λ (x : ℕ). x ≤ most) (sym split) (mul-le-mul few (pow_mono {i = 971} {j = 971} (lit≤ tt)))))
    ]
  where
    parts : (k : ℕ) → (k ≤ 971 → ⊥) → k ≡ k - 971 + 971
    parts k q = omega arith
within m (negsuc k) h l =
    let small : m ≤ 9007199254740991 = omega (arith, (digits false m (negsuc k) h).0) in
    let big : 9007199254740991 ≤ most = lit≤ tt in
    let in-most : m ≤ most = le_trans small big in
    let some : 1 ≤ 2 ^ suc k = pow_pos (suc k) in
    mul-le-mul in-most some

down-some : (e : ℤ) → 0 < down e
down-some (pos k) = omega arith
down-some (negsuc k) = pow_pos (suc k)

up-some : (e : ℤ) → 0 < up e
up-some (pos k) = pow_pos k
up-some (negsuc k) = omega arith

-- a zero equals +0.0
zero-equal : (e : ℤ) → eq (fin false 0 e) zero64 ≡ true
unfolding eq
zero-equal e = rw (zero_is, zero-mul (up e), zero-mul (down e))

not-zero : (m : ℕ) (e : ℤ) → eq (fin false m e) zero64 ≡ false → 0 < m
not-zero zero e z = absurd (true≢false (sym (zero-equal e) ∙ z))
not-zero (suc m) e z = omega arith

above_zero : (m : ℕ) (e : ℤ) → 0 < m → lt zero64 (fin false m e) ≡ true
unfolding lt
above_zero m e l = rw zero_is (lt-ltb _ _ (subst (λ (x : ℕ). x < m * up e * 1) (sym (zero-mul (down e))) (subst (λ (x : ℕ). 0 < x) (sym (mul-one (m * up e))) (mul-pos l (up-some e)))))

below-most : (m : ℕ) (e : ℤ) → T (fits binary64 (fin false m e)) → 0 < m → le (fin false m e) largest ≡ true
below-most m e h l = rw largest-is (is_true _
    (le_of_values (fin false m e) (fin false 9007199254740991 (pos 971)) (m * up e) (down e) most 1 (down-some e) (omega arith) (refl, refl) (refl, refl)
    (subst (λ (x : ℕ). x ≤ most * down e) (sym (mul-one (m * up e))) (within m e h l))))

pub positive_of : (x : Float) → T (fits binary64 x) → not_negative x → eq x zero64 ≡ false → positive x ≡ true
unfolding positive
positive_of nan h n z = absurd n
positive_of (inf s) h n z = absurd n
positive_of (fin true m e) h n z = absurd (true≢false n)
positive_of (fin false m e) h n z = let l = not-zero m e z in rw (above_zero m e l, below-most m e h l)
