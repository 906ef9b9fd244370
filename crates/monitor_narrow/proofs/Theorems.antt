-- Narrowing is to nearest with ties to even, is none exactly for what is not finite or rounds past the largest, and undoes widening, which loses nothing. Assumes nothing.
use mathlib.Core.Path.{◌≡◌, refl, sym, ap, ◌∙◌, subst}
use mathlib.Core.Logic.{◌⊎◌, inl, inr, ⊎_elim}
use Prim.Native.Nat.{ℕ, zero, suc, ◌+◌, ◌-◌, ◌*◌, ◌/◌, ◌%◌, ◌^◌, ◌≤◌, ◌<◌, zero-le}
use native.Mathlib.Nat.{le_trans, le_of_eq, le_of_lt, lt_of_le_of_lt, lt_of_lt_of_le, lt_of_not-le, not-le_of_lt, le_of_suc-le-suc, add_comm, mul-one}
use native.Mathlib.Nat.{mul_assoc, mul_comm, mul-pos, zero-lt-suc, div-one, mod-one, mul-le-mul_left, mul-le-mul_right, le_of_mul-le-mul_right, mul-div_cancel}
use native.Mathlib.Nat.{le-div_iff_mul-le, lt_irrefl, eq-or-lt_of_le}
use native.Mathlib.Omega.{arith}
use native.Mathlib.Decide.{dec_lt}
use mathlib.Core.Bool.{Bool, true, false, cond, beq}
use lib.Dec.{T, leb, lit≤, lit<}
use lib.Pow.{pow-add, pow_pos, pow_mono, shl_lt}
use lib.Ieee.{Float, nan, inf, fin, binary32, binary64, up, down, size, units, fits, of_bits, to_bits}
use lib.Ieee.Digits.{size-lt}
use lib.Ieee.Bits.{of_bits-to_bits, to_bits-lt, of_bits-fits}
use lib.Ieee.Fits.{down_pos, round-fits, nan-fits, inf-fits, fits_widens}
use lib.Ieee.Exact.{HasValue, units_val}
use lib.Ieee.Nearest.{closest, closest_same, closest_mono}
use lib.Ieee.Order.{drop, kept}
use lib.Ieee.Scale.{finite}
use borrow.Author.Tests.{ltb-true, lt-ltb, le-ltb, lt-leb, le-leb}
use Rattle.elementary.proofs.Digits.{under_back}
use Rattle.std.specs.Prelude.{Some, None}
use Rattle.monitor_narrow.specs.Narrow.{single_of, told_single, narrow_of, widen_of, finite_single}
use Rattle.monitor_narrow.specs.Nearness.{grains_of, sign_of, differ, apart_of, halfway_past}
use Rattle.monitor_narrow.proofs.Patterns.{value_as, lead_of, cut-is}
use Rattle.monitor_narrow.proofs.Rounds.{telling, above-limit, kept-most, kept-least, whole-lead, single-units, told-value, field64, lead64, double-value, double-finite, scaled}
use Rattle.monitor_narrow.proofs.Laws.{narrow-told, not-finite-told, field32, digits32, single-value, finite-is}
use Rattle.monitor_narrow.proofs.Near.{closest-near}

-- ---- widening loses nothing

-- the double is the same value as the single-precision one, an infinity or a NaN too
pub widen-exact : (v : ℕ) → of_bits binary64 (widen_of v) ≡ of_bits binary32 v
unfolding widen_of
widen-exact v = of_bits-to_bits binary64 (of_bits binary32 v) (fits_widens (of_bits binary32 v) (of_bits-fits binary32 v))

pub widen-below : (v : ℕ) → widen_of v < 2 ^ 64
unfolding widen_of
widen-below v = to_bits-lt binary64 (of_bits binary32 v) (fits_widens (of_bits binary32 v) (of_bits-fits binary32 v))

-- ---- what is told is the rounded value

single-fits : (x : Float) → T (fits binary32 (single_of x))
unfolding single_of
single-fits nan = nan-fits binary32
single-fits (inf s) = inf-fits binary32 s
single-fits (fin s m e) = round-fits binary32 s (m * up e) (down e)

record Told (y : Float) (w : ℕ) : Type 0 where
  limited : finite y ≡ true
  bits : to_bits binary32 y ≡ w

told : (y : Float) (w : ℕ) → told_single y ≡ Some w → Told y w
unfolding told_single
told nan w e = let z : ◌≡◌ {A = ℕ} 0 1 = cc in absurd (omega arith)
told (inf s) w e = let z : ◌≡◌ {A = ℕ} 0 1 = cc in absurd (omega arith)
told (fin s m x) w e = record { limited = refl; bits = cc }

module _ (b w : ℕ) (e : narrow_of b ≡ Some w) where
  told_of : Told (single_of (of_bits binary64 b)) w
  unfolding narrow_of
  told_of = told (single_of (of_bits binary64 b)) w e

  -- the bits told are those of the double's value, rounded
  pub narrowed-value : of_bits binary32 w ≡ single_of (of_bits binary64 b)
  narrowed-value = ap (of_bits binary32) (sym told_of.bits) ∙ of_bits-to_bits binary32 (single_of (of_bits binary64 b)) (single-fits (of_bits binary64 b))

  pub narrowed-finite : finite_single w ≡ true
  unfolding finite_single
  narrowed-finite = ap finite narrowed-value ∙ told_of.limited

  pub narrowed-below : w < 2 ^ 32
  narrowed-below = subst (λ (x : ℕ). x < 2 ^ 32) told_of.bits (to_bits-lt binary32 (single_of (of_bits binary64 b)) (single-fits (of_bits binary64 b)))

-- ---- narrowing after widening

-- n smallest single-precision values that the format holds are kept as they are
module _ (p j : ℕ) (most : p < 2 ^ 24) (lead : 0 < j → 2 ^ 23 ≤ p) where
  abbrev n : ℕ
  n = p * 2 ^ j * 2 ^ 149

  same_drop : drop 24 n (2 ^ 149) ≡ j
  same_drop = ap (λ (x : ℕ). size x - 24) (mul-div_cancel (p * 2 ^ j) (pow_pos 149)) ∙ cut-is binary32 p j most lead

  closest-whole : (q : ℕ) → closest q 1 ≡ q
  closest-whole q = rw (div-one q, mod-one q)

  same_kept : kept 24 n (2 ^ 149) ≡ p
  same_kept =
      ap (λ (k : ℕ). closest n (2 ^ 149 * 2 ^ k)) same_drop
      ∙ closest_same n (2 ^ 149 * 2 ^ j) p 1 (mul-pos (pow_pos 149) (pow_pos j)) (zero-lt-suc 0) (mul-one n ∙ mul_assoc p (2 ^ j) (2 ^ 149) ∙ ap (λ (x : ℕ). p * x) (mul_comm (2 ^ j) (2 ^ 149)))
      ∙ closest-whole p

lead-most : (x t : ℕ) → t < 2 ^ 23 → lead_of binary32 x t < 2 ^ 24
lead-most zero t h = omega arith
lead-most (suc x) t h = omega arith

lead-least : (x t : ℕ) → 0 < x - 1 → 2 ^ 23 ≤ lead_of binary32 x t
lead-least zero t h = omega arith
lead-least (suc x) t h = omega arith

whole-pattern : (x t : ℕ) → (x - 1) * 2 ^ 23 + lead_of binary32 x t ≡ x * 2 ^ 23 + t
whole-pattern zero t = omega arith
whole-pattern (suc x) t = omega arith

field-fine : (v : ℕ) → finite_single v ≡ true → field32 v < 255
field-fine v fine = ltb-true (field32 v) 255 (sym (finite-is v) ∙ fine)

module _ (v : ℕ) (below : v < 2 ^ 32) (fine : finite_single v ≡ true) where
  both-parts : cond (leb (2 ^ 31) v) (2 ^ 31) 0 + v % 2 ^ 31 ≡ v
  both-parts = elim (dec_lt v (2 ^ 31)) [
    | yes l ↦ rw (lt-leb (2 ^ 31) v l) (omega arith)
    | no m ↦ rw (le-leb (2 ^ 31) v (omega arith)) (omega arith)
  ]

  -- the bits of a finite single-precision value, widened and narrowed, are as they were: both zeros and subnormals too
  pub narrow-widened : narrow_of (widen_of v) ≡ Some v
  unfolding narrow_of
  narrow-widened =
      let p = lead_of binary32 (field32 v) (digits32 v) in
      let j = field32 v - 1 in
      let m : p < 2 ^ 24 = lead-most (field32 v) (digits32 v) (omega arith) in
      let l = lead-least (field32 v) (digits32 v) in
      let n = p * 2 ^ j * 2 ^ 149 in
      let back : field32 v * 2 ^ 23 + digits32 v ≡ v % 2 ^ 31 = omega arith in
      let whole : drop 24 n (2 ^ 149) * 2 ^ 23 + kept 24 n (2 ^ 149) ≡ v % 2 ^ 31 = rw (same_kept p j m l, same_drop p j m l) (whole-pattern (field32 v) (digits32 v) ∙ back) in
      ap (λ (y : Float). told_single (single_of y)) (widen-exact v)
      ∙ told-value (of_bits binary32 v) (leb (2 ^ 31) v) (p * 2 ^ j) (2 ^ 149) (pow_pos 149) (single-value v (field-fine v fine))
      ∙ ap (telling (leb (2 ^ 31) v)) whole
      ∙ rw (lt-ltb (v % 2 ^ 31) (255 * 2 ^ 23) (omega (arith, field-fine v fine)), both-parts)

-- what was narrowed once is narrowed no further
pub narrow-once : (b w : ℕ) → narrow_of b ≡ Some w → narrow_of (widen_of w) ≡ Some w
narrow-once b w e = narrow-widened w (narrowed-below b w e) (narrowed-finite b w e)

-- ---- how far apart

grains-of : (v : Float) (s : Bool) (a : ℕ) → HasValue v s a (2 ^ 1074) → (grains_of v ≡ a) × (sign_of v ≡ s)
unfolding grains_of sign_of
grains-of nan s a h = absurd h
grains-of (inf t) s a h = absurd h
grains-of (fin t m e) s a h = (ap (λ (x : ℕ). x / down e) h.1 ∙ mul-div_cancel a (down_pos e), h.0)

single-grains : (v : Float) (s : Bool) (a : ℕ) → HasValue v s a (2 ^ 149) → (grains_of v ≡ a * 2 ^ 925) × (sign_of v ≡ s)
single-grains v s a h = grains-of v s (a * 2 ^ 925) (value_as v s a (2 ^ 149) (a * 2 ^ 925) (2 ^ 1074) (pow_pos 149) (sym (scaled a 925 149)) h)

far : (A X Z D : ℕ) → Z < X → X ≤ A → D ≤ differ A X → D < differ A Z
far A X Z D h l m = omega arith

-- ---- a finite double: A of the smallest doubles, K digits dropped and Q kept of its whole number of smallest single-precision values

module _ (b : ℕ) (h : field64 b < 2047) where
  abbrev A : ℕ
  A = lead64 b * 2 ^ (field64 b - 1)

  abbrev K : ℕ
  K = drop 24 (A * 2 ^ 149) (2 ^ 1074)

  abbrev Q : ℕ
  Q = kept 24 (A * 2 ^ 149) (2 ^ 1074)

  own-grains : (grains_of (of_bits binary64 b) ≡ A) × (sign_of (of_bits binary64 b) ≡ leb (2 ^ 63) b)
  own-grains = grains-of (of_bits binary64 b) (leb (2 ^ 63) b) A (double-value b h)

  -- what is kept is the whole number nearest to A / 2^(925 + K)
  kept-closest : Q ≡ closest A (2 ^ (925 + K))
  kept-closest = closest_same (A * 2 ^ 149) (2 ^ 1074 * 2 ^ K) A (2 ^ (925 + K)) (mul-pos (pow_pos 1074) (pow_pos K)) (pow_pos (925 + K))
      (scaled A 149 (925 + K) ∙ ap (λ (y : ℕ). A * y) (ap (λ (y : ℕ). 2 ^ y) (sums K) ∙ pow-add 2 1074 K))
    where
      sums : (k : ℕ) → 149 + (925 + k) ≡ 1074 + k
      sums k = omega arith

  -- where digits are dropped, A has all those that the format keeps
  kept-lead : 0 < K → 2 ^ 23 * 2 ^ (925 + K) ≤ A
  kept-lead l =
      le_of_mul-le-mul_right
      (le_trans (le_of_eq (scaled (2 ^ 23) (925 + K) 149 ∙ ap (λ (y : ℕ). 2 ^ 23 * y) (ap (λ (y : ℕ). 2 ^ y) (sums K) ∙ pow-add 2 1074 K)))
      ((le-div_iff_mul-le (mul-pos (pow_pos 1074) (pow_pos K))).0 (whole-lead (A * 2 ^ 149) (2 ^ 1074) l)))
      (pow_pos 149)
    where
      sums : (k : ℕ) → 925 + k + 149 ≡ 1074 + k
      sums k = omega arith

  -- no p · 2^j of single precision lies nearer, and where one is as near it is the same or Q is even
  module _ (p j : ℕ) (most : p < 2 ^ 24) where
    abbrev Z : ℕ
    Z = p * 2 ^ j * 2 ^ 925

    coarser : K ≤ j → p * 2 ^ (j - K) * 2 ^ (925 + K) ≡ Z
    coarser l = scaled p (j - K) (925 + K) ∙ ap (λ (y : ℕ). p * 2 ^ y) (sums j K l) ∙ sym (scaled p j 925)
      where
        sums : (j k : ℕ) → k ≤ j → j - k + (925 + k) ≡ j + 925
        sums j k l = omega arith

    finer : j < K → Z < 2 ^ 23 * 2 ^ (925 + K)
    finer l = lt_of_lt_of_le (shl_lt (24 + j) 925 (shl_lt 24 j most)) (le_trans (pow_mono (sums j K l)) (le_of_eq (pow-add 2 23 (925 + K))))
      where
        sums : (j k : ℕ) → j < k → 24 + j + 925 ≤ 23 + (925 + k)
        sums j k l = omega arith

    nearer : (differ A (Q * 2 ^ (925 + K)) ≤ differ A Z) × (differ A (Q * 2 ^ (925 + K)) ≡ differ A Z → (Z ≡ Q * 2 ^ (925 + K)) ⊎ (Q % 2 ≡ 0))
    nearer = elim (dec_lt j K) [
      | no n ↦
          let l : K ≤ j = omega arith in
          let c = closest-near A (2 ^ (925 + K)) (p * 2 ^ (j - K)) (pow_pos (925 + K)) in
          rw (kept-closest, ← coarser l) (c.0, λ t. ⊎_elim (λ e. inl (ap (λ (y : ℕ). y * 2 ^ (925 + K)) e)) (λ e. inr e) (c.1 t))
      | yes l ↦
          let c = closest-near A (2 ^ (925 + K)) (2 ^ 23) (pow_pos (925 + K)) in
          let m = far A (2 ^ 23 * 2 ^ (925 + K)) Z (differ A (Q * 2 ^ (925 + K))) (finer l) (kept-lead (lt_of_le_of_lt zero-le l)) (rw kept-closest c.0) in
          (le_of_lt m, λ t. absurd (lt_irrefl (differ A Z) (subst (λ (y : ℕ). y < differ A Z) t m)))
    ]

-- the magnitude of a finite double is a whole number of smallest ones, so that nothing is cut off it
pub grains-exact : (b : ℕ) → finite (of_bits binary64 b) ≡ true → HasValue (of_bits binary64 b) (sign_of (of_bits binary64 b)) (grains_of (of_bits binary64 b)) (2 ^ 1074)
grains-exact b f = let h : field64 b < 2047 = ltb-true (field64 b) 2047 (sym (double-finite b) ∙ f) in rw ((own-grains b h).0, (own-grains b h).1) (double-value b h)

-- so is that of a finite single-precision value
pub grains-exact-single : (v : ℕ) → finite_single v ≡ true → HasValue (of_bits binary32 v) (sign_of (of_bits binary32 v)) (grains_of (of_bits binary32 v)) (2 ^ 1074)
unfolding finite_single
grains-exact-single v f = subst (λ (x : Float). HasValue x (sign_of x) (grains_of x) (2 ^ 1074)) (widen-exact v) (grains-exact (widen_of v) (ap finite (widen-exact v) ∙ f))

-- ---- narrowing is to nearest, and at a tie to the even one

finite-from : (b w : ℕ) → narrow_of b ≡ Some w → field64 b < 2047
unfolding narrow_of
finite-from b w e = elim (dec_lt (field64 b) 2047) [
  | yes l ↦ l
  | no n ↦
      let p = not-finite-told (of_bits binary64 b) (double-finite b ∙ le-ltb (field64 b) 2047 (omega arith)) in
      let z : ◌≡◌ {A = ℕ} 0 1 = cc in
      absurd (omega arith)
]

told-pattern : (s : Bool) (W w : ℕ) → telling s W ≡ Some w → (W < 255 * 2 ^ 23) × (w ≡ cond s (2 ^ 31) 0 + W)
told-pattern s W w e = elim (dec_lt W (255 * 2 ^ 23)) [
  | yes l ↦ let f = rw (lt-ltb W (255 * 2 ^ 23) l) at e in (l, cc)
  | no n ↦
      let f = rw (le-ltb W (255 * 2 ^ 23) (omega arith)) at e in
      let z : ◌≡◌ {A = ℕ} 0 1 = cc in
      absurd (omega arith)
]

even-pattern : (s : Bool) (k q : ℕ) → q % 2 ≡ 0 → (cond s (2 ^ 31) 0 + (k * 2 ^ 23 + q)) % 2 ≡ 0
even-pattern true k q h = omega arith
even-pattern false k q h = omega arith

-- by the signs s and t of two magnitudes
abbrev apart_by : Bool → Bool → ℕ → ℕ → ℕ
apart_by s t a c = cond (beq s t) (differ a c) (a + c)

apart-is : (x y : Float) (s t : Bool) (a c : ℕ) → (grains_of x ≡ a) × (sign_of x ≡ s) → (grains_of y ≡ c) × (sign_of y ≡ t) → apart_of x y ≡ apart_by s t a c
unfolding apart_of
apart-is x y s t a c p q = rw (p.0, p.1, q.0, q.1)

-- A and its nearest D have the sign s; Z has the sign t, and D is as near as Z and as 0 with the sign s
by-signs : (s t : Bool) (A D Z : ℕ) → differ A D ≤ differ A Z → differ A D ≤ differ A 0 → apart_by s s A D ≤ apart_by s t A Z
by-signs true true A D Z h l = h
by-signs false false A D Z h l = h
by-signs true false A D Z h l = omega arith
by-signs false true A D Z h l = omega arith

none_apart : (D Z : ℕ) → Z ≡ D → differ D Z ≡ 0
none_apart D Z e = omega arith

other-side : (A D Z : ℕ) → differ A D ≤ differ A 0 → differ A D ≡ A + Z → differ A D ≡ differ A 0
other-side A D Z l e = omega arith

tie-by-signs : (s t : Bool) (A D Z q : ℕ) → (differ A D ≡ differ A Z → (Z ≡ D) ⊎ (q % 2 ≡ 0)) → (differ A D ≡ differ A 0 → (0 ≡ D) ⊎ (q % 2 ≡ 0)) → (0 ≡ D → q % 2 ≡ 0)
    → differ A D ≤ differ A 0 → apart_by s s A D ≡ apart_by s t A Z → (apart_by s t D Z ≡ 0) ⊎ (q % 2 ≡ 0)
tie-by-signs true true A D Z q f g z l e = ⊎_elim (λ y. inl (none_apart D Z y)) (λ y. inr y) (f e)
tie-by-signs false false A D Z q f g z l e = ⊎_elim (λ y. inl (none_apart D Z y)) (λ y. inr y) (f e)
tie-by-signs true false A D Z q f g z l e = inr (⊎_elim z (λ y. y) (g (other-side A D Z l e)))
tie-by-signs false true A D Z q f g z l e = inr (⊎_elim z (λ y. y) (g (other-side A D Z l e)))

none_kept : (q k : ℕ) → 0 ≡ q * 2 ^ k → q % 2 ≡ 0
none_kept zero k e = refl
none_kept (suc q) k e = absurd (lt_irrefl 0 (subst (λ (y : ℕ). 0 < y) (sym e) (mul-pos (zero-lt-suc q) (pow_pos k))))

module _ (b w : ℕ) (e : narrow_of b ≡ Some w) where
  abbrev h : field64 b < 2047
  h = finite-from b w e

  abbrev s : Bool
  s = leb (2 ^ 63) b

  pattern-is : (K b h * 2 ^ 23 + Q b h < 255 * 2 ^ 23) × (w ≡ cond s (2 ^ 31) 0 + (K b h * 2 ^ 23 + Q b h))
  pattern-is = told-pattern s (K b h * 2 ^ 23 + Q b h) w (sym (narrow-told b h) ∙ e)

  -- the sign is kept, of a zero too
  pub narrow-keeps-sign : leb (2 ^ 31) w ≡ leb (2 ^ 63) b
  narrow-keeps-sign = ap (leb (2 ^ 31)) pattern-is.1 ∙ go s (K b h * 2 ^ 23 + Q b h) pattern-is.0
    where
      go : (s : Bool) (W : ℕ) → W < 255 * 2 ^ 23 → leb (2 ^ 31) (cond s (2 ^ 31) 0 + W) ≡ s
      go true W l = le-leb (2 ^ 31) (2 ^ 31 + W) (omega arith)
      go false W l = lt-leb (2 ^ 31) (0 + W) (omega arith)

  kept-grains : (grains_of (of_bits binary32 w) ≡ Q b h * 2 ^ (925 + K b h)) × (sign_of (of_bits binary32 w) ≡ s)
  kept-grains =
      let k = K b h in
      let q = Q b h in
      let n = A b h * 2 ^ 149 in
      let u : of_bits binary32 w ≡ units binary32 s q k = narrowed-value b w e ∙ single-units (of_bits binary64 b) s (A b h) (2 ^ 1074) (pow_pos 1074) (double-value b h) in
      let l : q * 2 ^ k < 2 ^ 277 = lt_of_not-le (λ m. not-le_of_lt pattern-is.0 (above-limit q k (kept-most n (2 ^ 1074)) (kept-least n (2 ^ 1074)) m)) in
      let g = single-grains (of_bits binary32 w) s (q * 2 ^ k) (rw u (units_val binary32 s q k l)) in
      (g.0 ∙ scaled q k 925 ∙ ap (λ (y : ℕ). q * 2 ^ y) (add_comm k 925), g.1)

  module _ (v : ℕ) (fine : finite_single v ≡ true) where
    abbrev p : ℕ
    p = lead_of binary32 (field32 v) (digits32 v)

    abbrev j : ℕ
    j = field32 v - 1

    other-grains : (grains_of (of_bits binary32 v) ≡ p * 2 ^ j * 2 ^ 925) × (sign_of (of_bits binary32 v) ≡ leb (2 ^ 31) v)
    other-grains = single-grains (of_bits binary32 v) (leb (2 ^ 31) v) (p * 2 ^ j) (single-value v (field-fine v fine))

    p-most : p < 2 ^ 24
    p-most = lead-most (field32 v) (digits32 v) (omega arith)

    abbrev D : ℕ
    D = Q b h * 2 ^ (925 + K b h)

    beside-zero : (differ (A b h) D ≤ differ (A b h) 0) × (differ (A b h) D ≡ differ (A b h) 0 → (0 ≡ D) ⊎ (Q b h % 2 ≡ 0))
    beside-zero = nearer b h 0 0 (lit< tt)

    taken_is : apart_of (of_bits binary64 b) (of_bits binary32 w) ≡ apart_by s s (A b h) D
    taken_is = apart-is (of_bits binary64 b) (of_bits binary32 w) s s (A b h) D (own-grains b h) kept-grains

    other-is : apart_of (of_bits binary64 b) (of_bits binary32 v) ≡ apart_by s (leb (2 ^ 31) v) (A b h) (p * 2 ^ j * 2 ^ 925)
    other-is = apart-is (of_bits binary64 b) (of_bits binary32 v) s (leb (2 ^ 31) v) (A b h) (p * 2 ^ j * 2 ^ 925) (own-grains b h) other-grains

    -- no finite single-precision value lies nearer to the double than the one told
    pub narrow-nearest : apart_of (of_bits binary64 b) (of_bits binary32 w) ≤ apart_of (of_bits binary64 b) (of_bits binary32 v)
    narrow-nearest = rw (taken_is, other-is) (by-signs s (leb (2 ^ 31) v) (A b h) D (p * 2 ^ j * 2 ^ 925) (nearer b h p j p-most).0 beside-zero.0)

    -- where another lies as near, it is the same number, or the one told is even
    pub narrow-ties-even : apart_of (of_bits binary64 b) (of_bits binary32 w) ≡ apart_of (of_bits binary64 b) (of_bits binary32 v) →
        (apart_of (of_bits binary32 w) (of_bits binary32 v) ≡ 0) ⊎ (w % 2 ≡ 0)
    narrow-ties-even t =
        ⊎_elim (λ y. inl (apart-is (of_bits binary32 w) (of_bits binary32 v) s (leb (2 ^ 31) v) D (p * 2 ^ j * 2 ^ 925) kept-grains other-grains ∙ y))
        (λ y. inr (rw pattern-is.1 (even-pattern s (K b h) (Q b h) y)))
        (tie-by-signs s (leb (2 ^ 31) v) (A b h) D (p * 2 ^ j * 2 ^ 925) (Q b h) (nearer b h p j p-most).1 beside-zero.1 (none_kept (Q b h) (925 + K b h)) beside-zero.0
        (sym taken_is ∙ t ∙ other-is))

-- ---- what is past the largest

-- 2^24 units of 2 · g lie farther from a number below halfway, (2^25 − 1) · g, than one unit less
not-up : (A g : ℕ) → A < (2 ^ 25 - 1) * g → differ A (2 ^ 24 * (2 * g)) ≤ differ A ((2 ^ 24 - 1) * (2 * g)) → ⊥
not-up A g h l = omega arith

module _ (b : ℕ) (h : field64 b < 2047) where
  abbrev a : ℕ
  a = A b h

  abbrev k : ℕ
  k = K b h

  abbrev q : ℕ
  q = Q b h

  below-halfway : a < halfway_past → k * 2 ^ 23 + q < 255 * 2 ^ 23
  below-halfway l = elim (dec_lt k 253) [
    | yes m ↦ limit-far k q m (kept-most (a * 2 ^ 149) (2 ^ 1074))
    | no n ↦ elim (dec_lt k 254) [
      | yes m ↦
          let e : k ≡ 253 = only k n m in
          limit-at k q e (not_full e)
      | no m ↦ absurd (not-le_of_lt l (le_trans (le_trans (lit≤ {m = halfway_past} {n = 2 ^ 23 * 2 ^ 1179} tt) (mul-le-mul_left (2 ^ 23) (pow_mono (steps k m)))) (kept-lead b h (many k m))))
    ]
  ]
    where
      limit-far : (k q : ℕ) → k < 253 → q ≤ 2 ^ 24 → k * 2 ^ 23 + q < 255 * 2 ^ 23
      limit-far k q m l = omega arith

      limit-at : (k q : ℕ) → k ≡ 253 → q < 2 ^ 24 → k * 2 ^ 23 + q < 255 * 2 ^ 23
      limit-at k q e l = omega arith

      only : (k : ℕ) → (k < 253 → ⊥) → k < 254 → k ≡ 253
      only k n m = omega arith

      many : (k : ℕ) → (k < 254 → ⊥) → 0 < k
      many k n = omega arith

      steps : (k : ℕ) → (k < 254 → ⊥) → 1179 ≤ 925 + k
      steps k n = omega arith

      closest-e : k ≡ 253 → q ≡ closest a (2 * 2 ^ 1177)
      closest-e e = kept-closest b h ∙ ap (λ (y : ℕ). closest a (2 ^ (925 + y))) e

      not_full : k ≡ 253 → q < 2 ^ 24
      not_full e = elim (eq-or-lt_of_le (kept-most (a * 2 ^ 149) (2 ^ 1074))) [
        | inr m ↦ m
        | inl f ↦
            let c = (closest-near a (2 * 2 ^ 1177) (2 ^ 24 - 1) (lit< tt)).0 in
            absurd (not-up a (2 ^ 1177) l (subst (λ (y : ℕ). differ a (y * (2 * 2 ^ 1177)) ≤ differ a ((2 ^ 24 - 1) * (2 * 2 ^ 1177))) (sym (closest-e e) ∙ f) c))
      ]

  from-halfway : halfway_past ≤ a → 255 * 2 ^ 23 ≤ k * 2 ^ 23 + q
  from-halfway l = elim (dec_lt k 254) [
    | no m ↦ past-far k q m (kept-least (a * 2 ^ 149) (2 ^ 1074) (many k m))
    | yes m ↦ past-at k q (enough m) (full (only k m (enough m)))
  ]
    where
      past-far : (k q : ℕ) → (k < 254 → ⊥) → 2 ^ 23 ≤ q → 255 * 2 ^ 23 ≤ k * 2 ^ 23 + q
      past-far k q m l = omega arith

      past-at : (k q : ℕ) → 253 ≤ k → 2 ^ 24 ≤ q → 255 * 2 ^ 23 ≤ k * 2 ^ 23 + q
      past-at k q e l = omega arith

      many : (k : ℕ) → (k < 254 → ⊥) → 0 < k
      many k n = omega arith

      only : (k : ℕ) → k < 254 → 253 ≤ k → k ≡ 253
      only k m e = omega arith

      cut : (z : ℕ) → 276 < z → 253 ≤ z - 24
      cut z h = omega arith

      enough : k < 254 → 253 ≤ k
      enough m =
          let z = a * 2 ^ 149 / 2 ^ 1074 in
          cut (size z) (under_back 276 (size z)
          (lt_of_le_of_lt ((le-div_iff_mul-le (pow_pos 1074)).1 (le_trans (lit≤ {m = 2 ^ 276 * 2 ^ 1074} {n = halfway_past * 2 ^ 149} tt) (mul-le-mul_right (2 ^ 149) l)))
          (size-lt z)))

      full : k ≡ 253 → 2 ^ 24 ≤ q
      full e =
          subst (λ (y : ℕ). 2 ^ 24 ≤ y) (sym (kept-closest b h ∙ ap (λ (y : ℕ). closest a (2 ^ (925 + y))) e))
          (closest_mono halfway_past (2 ^ 1178) a (2 ^ 1178) (pow_pos 1178) (pow_pos 1178) (mul-le-mul_right (2 ^ 1178) l))

told_below : (s : Bool) (W : ℕ) → W < 255 * 2 ^ 23 → telling s W ≡ None → ⊥
told_below s W l e =
    let f = rw (lt-ltb W (255 * 2 ^ 23) l) at e in
    let z : ◌≡◌ {A = ℕ} 0 1 = cc in
    omega arith

-- there is no narrowed value exactly for a double that is not finite, or lies from halfway past the largest on
pub past-only : (b : ℕ) → narrow_of b ≡ None → (finite (of_bits binary64 b) ≡ false) ⊎ (halfway_past ≤ grains_of (of_bits binary64 b))
past-only b e = elim (dec_lt (field64 b) 2047) [
  | no n ↦ inl (double-finite b ∙ le-ltb (field64 b) 2047 (omega arith))
  | yes h ↦ inr (rw (own-grains b h).0 (le_of_suc-le-suc (lt_of_not-le (λ l. told_below (leb (2 ^ 63) b) (K b h * 2 ^ 23 + Q b h) (below-halfway b h l) (sym (narrow-told b h) ∙ e)))))
]

pub past-told : (b : ℕ) → (finite (of_bits binary64 b) ≡ false) ⊎ (halfway_past ≤ grains_of (of_bits binary64 b)) → narrow_of b ≡ None
unfolding narrow_of
past-told b (inl f) = not-finite-told (of_bits binary64 b) f
past-told b (inr l) = elim (dec_lt (field64 b) 2047) [
  | no n ↦ not-finite-told (of_bits binary64 b) (double-finite b ∙ le-ltb (field64 b) 2047 (omega arith))
  | yes h ↦
      narrow-told b h
      ∙ ap (λ (t : Bool). cond t (Some (cond (leb (2 ^ 63) b) (2 ^ 31) 0 + (K b h * 2 ^ 23 + Q b h))) None)
      (le-ltb (K b h * 2 ^ 23 + Q b h) (255 * 2 ^ 23) (from-halfway b h (rw (own-grains b h).0 at l)))
]
