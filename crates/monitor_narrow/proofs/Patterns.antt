-- The bits of a finite value by its size in units of the format's smallest value, and the size of a value by its exponent's bits and digits. Assumes nothing.
use mathlib.Core.Path.{◌≡◌, refl, sym, ap, ◌∙◌}
use Prim.Native.Nat.{ℕ, zero, suc, ◌+◌, ◌-◌, ◌*◌, ◌/◌, ◌^◌, ◌≤◌, ◌<◌}
use native.Mathlib.Nat.{le_trans, le_of_eq, lt_of_le_of_lt, eq-or-lt_of_le, add_assoc, mul_right_comm, mul-le-mul_right, mul-div_cancel, eq_of_mul-eq-mul_right}
use native.Mathlib.Omega.{arith}
use mathlib.Core.Logic.{inl, inr}
use mathlib.Core.Bool.{Bool, true, false, cond}
use lib.Dec.{ltb, eqb}
use lib.Pow.{pow-add, pow_pos, shl_lt}
use lib.Ieee.{Float, nan, inf, fin, Format, prec, low, up, down, size, odd, hid, ones, top, of_fields, to_bits}
use lib.Ieee.Digits.{size-lt, size-le}
use lib.Ieee.Fits.{two, down_pos}
use lib.Ieee.Exact.{HasValue, odd_sign}
use lib.Ieee.Scale.{finite}
use borrow.Author.Tests.{eq-eqb, ne_eqb, lt-ltb, le-ltb}
use Rattle.elementary.proofs.Digits.{under_back}

-- ---- a value told as another fraction of the same size

pub value_as : (v : Float) (s : Bool) (a c b d : ℕ) → 0 < c → a * d ≡ b * c → HasValue v s a c → HasValue v s b d
value_as nan s a c b d p e h = h
value_as (inf t) s a c b d p e h = h
value_as (fin t m e) s a c b d p q h = (
  h.0,
  eq_of_mul-eq-mul_right c p (m * up e * d) (b * down e)
      (mul_right_comm (m * up e) d c ∙ ap (λ (x : ℕ). x * d) h.1 ∙ mul_right_comm a (down e) d ∙ ap (λ (x : ℕ). x * down e) q ∙ mul_right_comm b c (down e)),
)

-- ---- the bits of a value that is q · 2^k smallest ones

-- how many digits are dropped: k, where the leading digit is among those kept
pub cut-is : (f : Format) (q k : ℕ) → q < 2 ^ prec f → (0 < k → 2 ^ (prec f - 1) ≤ q) → size (q * 2 ^ k) - prec f ≡ k
cut-is f q k a b = go (prec f) k (size (q * 2 ^ k)) (size-le (q * 2 ^ k) (prec f + k) (shl_lt (prec f) k a))
    (λ l. under_back (prec f - 1 + k) (size (q * 2 ^ k)) (lt_of_le_of_lt (lead l) (size-lt (q * 2 ^ k)))) (two f)
  where
    lead : 0 < k → 2 ^ (prec f - 1 + k) ≤ q * 2 ^ k
    lead l = le_trans (le_of_eq (pow-add 2 (prec f - 1) k)) (mul-le-mul_right (2 ^ k) (b l))

    go : (p k z : ℕ) → z ≤ p + k → (0 < k → p - 1 + k < z) → 2 ≤ p → z - p ≡ k
    go p zero z a b t = omega arith
    go p (suc k) z a b t = omega (arith, b (omega arith))

pub pattern : (f : Format) (v : Float) (s : Bool) (q k : ℕ) → HasValue v s (q * 2 ^ k) (2 ^ low f) → q < 2 ^ prec f → (0 < k → 2 ^ (prec f - 1) ≤ q) → to_bits f v ≡ cond s (top f) 0 + (k * hid f + q)
unfolding to_bits
pattern f nan s q k h a b = absurd h
pattern f (inf t) s q k h a b = absurd h
pattern f (fin t m e) s q k h a b =
    let n : m * up e * 2 ^ low f / down e ≡ q * 2 ^ k = ap (λ (x : ℕ). x / down e) h.1 ∙ mul-div_cancel (q * 2 ^ k) (down_pos e) in
    ap (λ (x : ℕ). cond t (top f) 0 + (size x - prec f) * hid f + x / 2 ^ (size x - prec f)) n
    ∙ ap (λ (j : ℕ). cond t (top f) 0 + j * hid f + q * 2 ^ k / 2 ^ j) (cut-is f q k a b)
    ∙ ap (λ (x : ℕ). cond t (top f) 0 + k * hid f + x) (mul-div_cancel q (pow_pos k))
    ∙ add_assoc (cond t (top f) 0) (k * hid f) q
    ∙ ap (λ (u : Bool). cond u (top f) 0 + (k * hid f + q)) h.0

-- ---- the size of a value by its exponent's bits and digits

-- the digits with the leading one
abbrev pub lead_of : Format → ℕ → ℕ → ℕ
lead_of f zero t = t
lead_of f (suc x) t = hid f + t

not-ones : (x o : ℕ) → x < o → x ≡ o → ⊥
not-ones x o h e = omega arith

pub fields_value : (f : Format) (s : Bool) (x t : ℕ) → x < ones f → HasValue (of_fields f s x t) s (lead_of f x t * 2 ^ (x - 1)) (2 ^ low f)
unfolding of_fields
fields_value f s zero t h = odd_sign (prec f) s t 0 (low f)
fields_value f s (suc x) t h =
    let e : suc x - 1 ≡ x = omega arith in
    rw (ne_eqb (suc x) (ones f) (not-ones (suc x) (ones f) h), e) (odd_sign (prec f) s (hid f + t) x (low f))

odd-finite : (d : ℕ) (s : Bool) (q k l : ℕ) → finite (odd d s q k l) ≡ true
unfolding odd
odd-finite d s zero k l = refl
odd-finite d s (suc q) k l = refl

not_finite : (b s : Bool) → finite (cond b (inf s) nan) ≡ false
not_finite true s = refl
not_finite false s = refl

pub fields-finite : (f : Format) (s : Bool) (x t : ℕ) → x ≤ ones f → finite (of_fields f s x t) ≡ ltb x (ones f)
unfolding of_fields
fields-finite f s zero t h = odd-finite (prec f) s t 0 (low f) ∙ sym (lt-ltb 0 (ones f) (omega arith))
fields-finite f s (suc x) t h = elim (eq-or-lt_of_le h) [
  | inl e ↦ rw (eq-eqb (suc x) (ones f) e, le-ltb (suc x) (ones f) (le_of_eq (sym e))) (not_finite (eqb t 0) s)
  | inr l ↦ rw (ne_eqb (suc x) (ones f) (not-ones (suc x) (ones f) l), lt-ltb (suc x) (ones f) l) (odd-finite (prec f) s (hid f + t) x (low f))
]
