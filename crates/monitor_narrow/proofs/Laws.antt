-- What the code of narrowing and widening cites: each by the exponent's bits and the digits. Assumes nothing.
use mathlib.Core.Path.{◌≡◌, refl, sym, ap, ◌∙◌}
use Prim.Native.Nat.{ℕ, zero, suc, ◌+◌, ◌-◌, ◌*◌, ◌/◌, ◌%◌, ◌^◌, ◌≤◌, ◌<◌}
use native.Mathlib.Nat.{lt_of_le_of_lt, lt_of_lt_of_le, zero-add, add-zero, lt_irrefl, div-le_self, mod-lt}
use native.Mathlib.Omega.{arith}
use native.Mathlib.Decide.{dec_lt}
use mathlib.Core.Bool.{Bool, false, cond, true≢false}
use lib.Dec.{leb, ltb, eqb}
use lib.Count.{count_leading_zeros}
use lib.Pow.{pow_pos, pow_mono}
use lib.IntN.{ℤ, pos}
use lib.Ieee.{Float, nan, inf, fin, binary32, binary64, nearest, odd, of_fields, of_bits, to_bits}
use lib.Ieee.Exact.{HasValue, odd_sign}
use lib.Ieee.Nearest.{closest}
use lib.Ieee.Scale.{finite}
use lib.Ieee.Order.{drop, kept}
use borrow.Author.Tests.{eq-eqb, ne_eqb, lt-ltb, le-ltb, le-leb, lt-leb}
use Rattle.elementary.proofs.Parts.{placed}
use Rattle.std.specs.Prelude.{Some, None}
use Rattle.monitor_narrow.specs.Narrow.{single_of, told_single, narrow_of, widen_of, finite_single}
use Rattle.monitor_narrow.specs.Steps.{magnitude_of}
use Rattle.monitor_narrow.proofs.Patterns.{value_as, pattern, lead_of, fields_value, fields-finite}
use Rattle.monitor_narrow.proofs.Rounds.{telling, field64, digits64, lead64, double-value, double-finite, lead-most, lead_is, compare-less, compare_same}
use Rattle.monitor_narrow.proofs.Rounds.{compare-next, told-value, tiny-kept, tiny-drop, low-magnitude, high-magnitude, scaled}

-- ---- the nearest whole number

module _ (m u : ℕ) where
  pub nearest-down : 2 * (m % u) < u → m / u ≡ closest m u
  nearest-down h = sym (ap (nearest (m / u)) (compare-less (m % u * 2) u (omega arith)))

  pub nearest-up : u < 2 * (m % u) → m / u + 1 ≡ closest m u
  nearest-up h = rw (compare-next (m % u * 2) u (omega arith)) (omega arith)

  pub nearest-even : u ≤ 2 * (m % u) → 2 * (m % u) ≤ u → m / u + m / u % 2 ≡ closest m u
  nearest-even h l = sym (ap (nearest (m / u)) (compare_same (m % u * 2) u (omega arith)))

  pub part-most : m < 2 ^ 53 → m / u < 2 ^ 53
  part-most h = lt_of_le_of_lt (div-le_self m u) h

-- 1 << d for the digits that go
pub unit-pos : (d : ℕ) → 0 < 2 ^ d
unit-pos d = pow_pos d

pub remainder-most : (m d : ℕ) → d < 54 → m % 2 ^ d < 2 ^ 53
remainder-most m d h = lt_of_lt_of_le (mod-lt m (pow_pos d)) (pow_mono (let l : d ≤ 53 = omega arith in l))

-- ---- narrowing

pub sign-narrowed : (b : ℕ) → b < 2 ^ 64 → b / 2 ^ 63 * 2 ^ 31 ≡ cond (leb (2 ^ 63) b) (2 ^ 31) 0
sign-narrowed b h = elim (dec_lt b (2 ^ 63)) [
  | yes l ↦ rw (lt-leb (2 ^ 63) b l) (omega arith)
  | no n ↦ rw (le-leb (2 ^ 63) b (omega arith)) (omega arith)
]

-- an infinity or a NaN
pub not-finite-told : (v : Float) → finite v ≡ false → told_single (single_of v) ≡ None
unfolding single_of told_single
not-finite-told nan h = refl
not-finite-told (inf s) h = refl
not-finite-told (fin s m e) h = absurd (true≢false h)

module _ (b : ℕ) where
  pub narrow-told : field64 b < 2047
      → narrow_of b ≡ telling (leb (2 ^ 63) b)
      (drop 24 (lead64 b * 2 ^ (field64 b - 1) * 2 ^ 149) (2 ^ 1074) * 2 ^ 23 + kept 24 (lead64 b * 2 ^ (field64 b - 1) * 2 ^ 149) (2 ^ 1074))
  unfolding narrow_of
  narrow-told h = told-value (of_bits binary64 b) (leb (2 ^ 63) b) (lead64 b * 2 ^ (field64 b - 1)) (2 ^ 1074) (pow_pos 1074) (double-value b h)

  pub narrow-tiny : b < 2 ^ 64 → field64 b < 873 → Some (b / 2 ^ 63 * 2 ^ 31) ≡ narrow_of b
  narrow-tiny w h =
      let x = field64 b - 1 in
      let n = lead64 b * 2 ^ x * 2 ^ 149 in
      let z : drop 24 n (2 ^ 1074) * 2 ^ 23 + kept 24 n (2 ^ 1074) ≡ 0 = rw (tiny-kept (lead64 b) x (lead-most b) (omega arith), tiny-drop (lead64 b) x (lead-most b) (omega arith)) in
      ap Some (sign-narrowed b w ∙ sym (add-zero (cond (leb (2 ^ 63) b) (2 ^ 31) 0))) ∙ sym (narrow-told (omega arith) ∙ ap (telling (leb (2 ^ 63) b)) z)

  magnitude-is : 873 ≤ field64 b
      → drop 24 (lead64 b * 2 ^ (field64 b - 1) * 2 ^ 149) (2 ^ 1074) * 2 ^ 23 + kept 24 (lead64 b * 2 ^ (field64 b - 1) * 2 ^ 149) (2 ^ 1074) ≡ magnitude_of (field64 b)
      (2 ^ 52 + digits64 b)
  unfolding magnitude_of
  magnitude-is h =
      let y = field64 b in
      let x = y - 1 in
      let L = lead64 b in
      let e : L ≡ 2 ^ 52 + digits64 b = lead_is b (omega arith) in
      elim (dec_lt y 897) [
        | yes l ↦
            let d : 925 - x ≡ 926 - y = omega arith in
            low-magnitude L x (lead-most b) (omega arith) (omega arith) ∙ rw (lt-ltb y 897 l, d, e)
        | no n ↦
            let d : x - 896 ≡ y - 897 = omega arith in
            high-magnitude L x (lead-most b) (omega (arith, e)) (omega arith) ∙ rw (le-ltb y 897 (omega arith), d, e)
      ]

  past-magnitude : 2047 ≤ field64 b → 255 * 2 ^ 23 ≤ magnitude_of (field64 b) (2 ^ 52 + digits64 b)
  unfolding magnitude_of
  past-magnitude h = rw (le-ltb (field64 b) 897 (omega arith)) (omega arith)

  pub narrow-is : 873 ≤ field64 b → narrow_of b ≡ telling (leb (2 ^ 63) b) (magnitude_of (field64 b) (2 ^ 52 + digits64 b))
  unfolding narrow_of
  narrow-is h = elim (dec_lt (field64 b) 2047) [
    | yes l ↦ narrow-told l ∙ ap (telling (leb (2 ^ 63) b)) (magnitude-is h)
    | no n ↦
        let m : 2047 ≤ field64 b = omega arith in
        not-finite-told (of_bits binary64 b) (double-finite b ∙ le-ltb (field64 b) 2047 m) ∙ rw (le-ltb (magnitude_of (field64 b) (2 ^ 52 + digits64 b)) (255 * 2 ^ 23) (past-magnitude m))
  ]

  module _ (w : ℕ) (h : 873 ≤ field64 b) (e : w ≡ magnitude_of (field64 b) (2 ^ 52 + digits64 b)) where
    pub narrow-fits : b < 2 ^ 64 → w < 255 * 2 ^ 23 → Some (b / 2 ^ 63 * 2 ^ 31 + w) ≡ narrow_of b
    narrow-fits l m = sym (narrow-is h ∙ rw (← e, lt-ltb w (255 * 2 ^ 23) m, sign-narrowed b l))

    pub narrow-past : 255 * 2 ^ 23 ≤ w → None ≡ narrow_of b
    narrow-past m = sym (narrow-is h ∙ rw (← e, le-ltb w (255 * 2 ^ 23) m))

-- ---- the exponent's bits and the digits of a single-precision value

abbrev pub field32 : ℕ → ℕ
field32 b = b % 2 ^ 31 / 2 ^ 23

abbrev pub digits32 : ℕ → ℕ
digits32 b = b % 2 ^ 23

pub single-value : (b : ℕ) → field32 b < 255 → HasValue (of_bits binary32 b) (leb (2 ^ 31) b) (lead_of binary32 (field32 b) (digits32 b) * 2 ^ (field32 b - 1)) (2 ^ 149)
unfolding of_bits
single-value b h = fields_value binary32 (leb (2 ^ 31) b) (field32 b) (digits32 b) h

pub finite-is : (b : ℕ) → finite_single b ≡ ltb (field32 b) 255
unfolding finite_single of_bits
finite-is b = fields-finite binary32 (leb (2 ^ 31) b) (field32 b) (digits32 b) (omega arith)

pub finite-by-limit : (b : ℕ) → ltb (b % 2 ^ 31) (255 * 2 ^ 23) ≡ finite_single b
finite-by-limit b = elim (dec_lt (b % 2 ^ 31) (255 * 2 ^ 23)) [
  | yes l ↦ lt-ltb (b % 2 ^ 31) (255 * 2 ^ 23) l ∙ sym (finite-is b ∙ lt-ltb (field32 b) 255 (omega arith))
  | no n ↦ le-ltb (b % 2 ^ 31) (255 * 2 ^ 23) (omega arith) ∙ sym (finite-is b ∙ le-ltb (field32 b) 255 (omega arith))
]

-- ---- widening

pub sign-widened : (b : ℕ) → b < 2 ^ 32 → b / 2 ^ 31 * 2 ^ 63 ≡ cond (leb (2 ^ 31) b) (2 ^ 63) 0
sign-widened b h = elim (dec_lt b (2 ^ 31)) [
  | yes l ↦ rw (lt-leb (2 ^ 31) b l) (omega arith)
  | no n ↦ rw (le-leb (2 ^ 31) b (omega arith)) (omega arith)
]

module _ (b : ℕ) where
  widen-top : field32 b ≡ 255 → widen_of b ≡ to_bits binary64 (cond (eqb (digits32 b) 0) (inf (leb (2 ^ 31) b)) nan)
  unfolding widen_of of_bits of_fields
  widen-top e = ap (λ (x : ℕ). to_bits binary64 (of_fields binary32 (leb (2 ^ 31) b) x (digits32 b))) e

  pub widen-inf : b < 2 ^ 32 → field32 b ≡ 255 → digits32 b ≡ 0 → b / 2 ^ 31 * 2 ^ 63 + 2047 * 2 ^ 52 ≡ widen_of b
  unfolding to_bits
  widen-inf l e d = rw (sign-widened b l) (sym (widen-top e ∙ rw (eq-eqb (digits32 b) 0 d)))

  pub widen-nan : field32 b ≡ 255 → (digits32 b ≡ 0 → ⊥) → 2047 * 2 ^ 52 + 2 ^ 51 ≡ widen_of b
  unfolding to_bits
  widen-nan e d = sym (widen-top e ∙ rw (ne_eqb (digits32 b) 0 d))

-- ---- a value with the leading digit in its place, as a double's bits

raise : (m a z k : ℕ) → a + 1074 ≡ z + k + 149 → m * 2 ^ a * 2 ^ 1074 ≡ m * 2 ^ z * 2 ^ k * 2 ^ 149
raise m a z k e = scaled m a 1074 ∙ ap (λ (y : ℕ). m * 2 ^ y) e ∙ sym (ap (λ (y : ℕ). y * 2 ^ 149) (scaled m z k) ∙ scaled m (z + k) 149)

-- m of the smallest single-precision values times 2^a, z of whose digits lie below the leading one's place
raised-pattern : (v : Float) (s : Bool) (m a z k : ℕ) → HasValue v s (m * 2 ^ a) (2 ^ 149) → a + 1074 ≡ z + k + 149 → m * 2 ^ z < 2 ^ 53 → 2 ^ 52 ≤ m * 2 ^ z
    → to_bits binary64 v ≡ cond s (2 ^ 63) 0 + (k * 2 ^ 52 + m * 2 ^ z)
raised-pattern v s m a z k h e l u = pattern binary64 v s (m * 2 ^ z) k (value_as v s (m * 2 ^ a) (2 ^ 149) (m * 2 ^ z * 2 ^ k) (2 ^ 1074) (pow_pos 149) (raise m a z k e) h) l (λ p. u)

lead-single : (x t : ℕ) → 0 < x → lead_of binary32 x t ≡ 2 ^ 23 + t
lead-single zero t h = absurd (lt_irrefl 0 h)
lead-single (suc x) t h = refl

pub widen-normal : (b : ℕ) → b < 2 ^ 32 → (field32 b ≡ 255 → ⊥) → (field32 b ≡ 0 → ⊥) → b / 2 ^ 31 * 2 ^ 63 + (896 + field32 b) * 2 ^ 52 + digits32 b * 2 ^ 29 ≡ widen_of b
unfolding widen_of
widen-normal b w n z =
    let x = field32 b in
    let t = digits32 b in
    let e : lead_of binary32 x t ≡ 2 ^ 23 + t = lead-single x t (omega arith) in
    let p : widen_of b ≡ cond (leb (2 ^ 31) b) (2 ^ 63) 0 + ((895 + x) * 2 ^ 52 + (2 ^ 23 + t) * 2 ^ 29) =
    raised-pattern (of_bits binary32 b) (leb (2 ^ 31) b) (2 ^ 23 + t) (x - 1) 29 (895 + x) (rw e at (single-value b (omega arith))) (omega arith) (omega arith) (omega arith) in
    omega (arith, p, sign-widened b w)

-- ---- the exponent's bits 0

signed-bits : (s : Bool) (m : ℕ) (e : ℤ) → to_bits binary64 (fin s m e) ≡ cond s (2 ^ 63) 0 + to_bits binary64 (fin false m e)
unfolding to_bits
signed-bits s m e = regroup _ _ _
  where
    regroup : (a b c : ℕ) → a + b + c ≡ a + (0 + b + c)
    regroup a b c = omega arith

odd-bits : (d : ℕ) (s : Bool) (q k l : ℕ) → to_bits binary64 (odd d s q k l) ≡ cond s (2 ^ 63) 0 + to_bits binary64 (odd d false q k l)
unfolding odd
odd-bits d s zero k l = signed-bits s 0 (pos 0)
odd-bits d s (suc q) k l = signed-bits s _ _

module _ (t : ℕ) (small : t < 2 ^ 23) where
  small_is : of_bits binary32 t ≡ odd 24 false t 0 149
  unfolding of_bits of_fields
  small_is =
      let f : field32 t ≡ 0 = omega arith in
      let d : digits32 t ≡ t = omega arith in
      rw (lt-leb (2 ^ 31) t (omega arith), f, d)

  pub raised-some : (t ≡ 0 → ⊥) → (925 - (count_leading_zeros 64 t - 11)) * 2 ^ 52 + t * 2 ^ (count_leading_zeros 64 t - 11) ≡ widen_of t
  unfolding widen_of
  raised-some n =
      let p = placed t (omega arith) (omega arith) in
      let z = count_leading_zeros 64 t - 11 in
      sym (raised-pattern (of_bits binary32 t) false t 0 z (925 - z) (rw small_is (odd_sign 24 false t 0 149)) (omega (arith, p.most)) p.high p.low ∙ zero-add ((925 - z) * 2 ^ 52 + t * 2 ^ z))

pub raised-none : 0 ≡ widen_of 0
unfolding widen_of
raised-none = refl

pub widen-small : (b : ℕ) → b < 2 ^ 32 → field32 b ≡ 0 → b / 2 ^ 31 * 2 ^ 63 + widen_of (digits32 b) ≡ widen_of b
unfolding widen_of of_bits of_fields
widen-small b w e =
    let s = leb (2 ^ 31) b in
    let t = digits32 b in
    rw (sign-widened b w)
    (sym
    (ap (λ (x : ℕ). to_bits binary64 (of_fields binary32 s x t)) e ∙ odd-bits 24 s t 0 149 ∙ ap (λ (v : Float). cond s (2 ^ 63) 0 + to_bits binary64 v) (sym (small_is t (omega arith)))))
