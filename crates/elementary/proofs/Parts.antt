-- A value's significand and exponent, from its bits: what the proof of `ln` cites. Assumes nothing.
use Rattle.std.proofs.Common.{◌≡◌, ℕ, zero, suc, ◌+◌, ◌-◌, ◌*◌, ◌/◌, ◌%◌, ◌^◌, ◌<◌, ◌≤◌, Bool, true, false, cond, ◌&&◌}
use Rattle.std.proofs.Common.{◌||◌, T, eqb, ltb, leb, ◌⊎◌, ℤ, pos, negsuc, ◌+ℤ◌, ◌-ℤ◌, neg_ℤ, sym, refl, ap, ◌∙◌, subst}
use Rattle.std.proofs.Common.{ap₂, inl, inr, ⊎_elim, true≢false, le_trans, le_of_eq, lt_of_lt_of_le, le_of_suc-le-suc}
use Rattle.std.proofs.Common.{not-suc-le-zero, lt_of_le_of_lt, lt_irrefl, mul-le-mul_right, mod-eq_of_lt, zero-lt-suc, mul_assoc, mul-pos}
use Rattle.std.proofs.Common.{zero-mul, mul-one, mul-div_cancel, arith, lit<, pow_pos, pow-add, shl_lt, w64, SFits, to_z, le-ltb, lt-ltb, eq-eqb, ne_eqb, le-leb, leb-false}
use native.Mathlib.Nat.{pow-succ'}
use lib.Ieee.Fits.{up_pos}
use lib.IntN.{sub_ℕ, +ℤ_comm, +ℤ_assoc, +ℤ_invl, +ℤ_idl}
use lib.Ieee.Digits.{size-lt, size_reaches}
use lib.Count.{count_trailing_zeros, count_leading_zeros, leading_top}
use borrow.Author.Tests.{lt-leb}
use lib.Ieee.{Float, nan, inf, fin, binary64, size, odd, minus, up, down, of_bits, of_fields, to_bits, is_nan, fits, ne, eq, le, lt, below, level, div}
use lib.Ieee.Bits.{of_bits-to_bits, to_bits-lt}
use mir.ValLaws.{to_z-of_z}
use Rattle.laws.specs.Area.{two64}
use Rattle.laws.proofs.Numbers.{order}
use Rattle.elementary.proofs.Nans.{nan-only}
use Rattle.elementary.specs.Ln.{root2, significand, exponent, ln_at, ln_in, ln_of}
use Rattle.elementary.proofs.Digits.{under_back, cut-size, tz_div, tz_shift}

-- ---- numbers with a sign

-- a - b, by the order of the two
minus-up : (a b : ℕ) → b ≤ a → minus a b ≡ pos (a - b)
minus-up a b h = rw (le-leb b a h)

minus-low : (a b : ℕ) → a < b → minus a b ≡ negsuc (b - suc a)
minus-low a b h = rw (lt-leb b a h)

minus_plus : (a b c : ℕ) → minus a b +ℤ pos c ≡ minus (a + c) b
minus_plus a b c = ⊎_elim above under (order a b)
  where
    above : b ≤ a → minus a b +ℤ pos c ≡ minus (a + c) b
    above h = ap (λ (x : ℤ). x +ℤ pos c) (minus-up a b h) ∙ ap pos (omega arith) ∙ sym (minus-up (a + c) b (omega arith))

    join : a < b → (b ≤ a + c) ⊎ (a + c < b) → sub_ℕ c (suc (b - suc a)) ≡ minus (a + c) b
    join h (inl l) = rw (le-ltb c (suc (b - suc a)) (omega arith)) (ap pos (omega arith) ∙ sym (minus-up (a + c) b l))
    join h (inr l) = rw (lt-ltb c (suc (b - suc a)) (omega arith)) (ap negsuc (omega arith) ∙ sym (minus-low (a + c) b l))

    under : a < b → minus a b +ℤ pos c ≡ minus (a + c) b
    under h = ap (λ (x : ℤ). x +ℤ pos c) (minus-low a b h) ∙ join h (order (a + c) b)

minus-neg : (a b d : ℕ) → a + d ≡ b → minus a b ≡ neg_ℤ (pos d)
minus-neg a b zero e = minus-up a b (omega arith) ∙ ap pos (omega arith)
minus-neg a b (suc d) e = minus-low a b (omega arith) ∙ ap negsuc (omega arith)

-- x - 1074 and one more, as an i64
pub k-is : (x : ℕ) → x < 4096 → to_z w64 x -ℤ pos 1074 ≡ minus x 1074
k-is x h = ap (λ (y : ℤ). y -ℤ pos 1074) (to_z-of_z w64 (pos x) (record { sfits = omega arith })) ∙ go (order x 1074)
  where
    go : (1074 ≤ x) ⊎ (x < 1074) → sub_ℕ x 1074 ≡ minus x 1074
    go (inl l) = rw (le-ltb x 1074 l) (sym (minus-up x 1074 l))
    go (inr l) = rw (lt-ltb x 1074 l) (sym (minus-low x 1074 l))

pub k-fits : (x : ℕ) → x < 4097 → SFits w64 (minus x 1074)
k-fits x h = go (order x 1074)
  where
    go : (1074 ≤ x) ⊎ (x < 1074) → SFits w64 (minus x 1074)
    go (inl l) = rw (minus-up x 1074 l) (record { sfits = omega arith })
    go (inr l) = rw (minus-low x 1074 l) (record { sfits = omega arith })

pub k-more : (x : ℕ) → x < 4096 → SFits w64 (minus x 1074 +ℤ pos 1)
k-more x h = rw (minus_plus x 1074 1) (k-fits (x + 1) (omega arith))

-- ---- what `odd` writes, and its logarithm

odd_is : (d : ℕ) (s : Bool) (q k l : ℕ) → 0 < q → odd d s q k l ≡ fin s (q / 2 ^ count_trailing_zeros d q) (minus (k + count_trailing_zeros d q) l)
unfolding odd
odd_is d s zero k l h = absurd (lt_irrefl 0 h)
odd_is d s (suc q) k l h = refl

ln-fin : (m : ℕ) (e : ℤ) → 0 < m → ln_of (fin false m e) ≡ ln_in (significand m) (exponent m e)
unfolding ln_of
ln-fin zero e h = absurd (lt_irrefl 0 h)
ln-fin (suc m) e h = refl

ln-parts : (m : ℕ) (e k : ℤ) (d : ℕ) (n : Float) → 0 < m → size m ≡ suc d → e +ℤ pos d ≡ k → fin false m (neg_ℤ (pos d)) ≡ n → ln_of (fin false m e) ≡ ln_in n k
ln-parts m e k d n h z ek en =
    let p : size m - 1 ≡ d = ap (λ (x : ℕ). x - 1) z ∙ omega arith in
    ln-fin m e h ∙ ap₂ ln_in (ap (λ (x : ℕ). fin false m (neg_ℤ (pos x))) p ∙ en) (ap (λ (x : ℕ). e +ℤ pos x) p ∙ ek)

-- q * 2 ^ (x - 1074), the leading digit of q at j
pub ln-odd : (q j x : ℕ) → 2 ^ j ≤ q → q < 2 ^ suc j → j ≤ 52 → ln_of (odd 53 false q x 1074) ≡ ln_in (odd 53 false (q * 2 ^ (52 - j)) 1022 1074) (minus (x + j) 1074)
ln-odd q j x lo hi h =
    let t = count_trailing_zeros 53 q in
    let z = 52 - j in
    let m = q / 2 ^ t in
    let qp : 0 < q = lt_of_lt_of_le (pow_pos j) lo in
    let w = cut-size m t q j (tz_div 53 q) lo hi in
    let l : t ≤ j = w.0 in
    let top : suc j + z ≡ 53 = omega arith in
    let sh : q * 2 ^ z < 2 ^ 53 = subst (λ (y : ℕ). q * 2 ^ z < 2 ^ y) top (shl_lt (suc j) z hi) in
    let tz : count_trailing_zeros 53 (q * 2 ^ z) ≡ t + z = tz_shift z 53 q qp sh in
    let dm : q * 2 ^ z / 2 ^ (t + z) ≡ m = ap (λ (y : ℕ). y / 2 ^ (t + z))
    (ap (λ (y : ℕ). y * 2 ^ z) (sym (tz_div 53 q)) ∙ mul_assoc m (2 ^ t) (2 ^ z) ∙ ap (λ (y : ℕ). m * y) (sym (pow-add 2 t z))) ∙
    mul-div_cancel m (pow_pos (t + z)) in
    let mp : 0 < m = pos_of m (2 ^ t) (lt_of_lt_of_le qp (le_of_eq (sym (tz_div 53 q)))) in
    let back : 1022 + (t + z) + (j - t) ≡ 1074 = omega arith in
    let exps : x + t + (j - t) ≡ x + j = omega arith in
    ap ln_of (odd_is 53 false q x 1074 qp)
    ∙ ln-parts m (minus (x + t) 1074) (minus (x + j) 1074) (j - t) (odd 53 false (q * 2 ^ z) 1022 1074) mp w.1
    (minus_plus (x + t) 1074 (j - t) ∙ ap (λ (y : ℕ). minus y 1074) exps)
    (sym (odd_is 53 false (q * 2 ^ z) 1022 1074 (mul-pos qp (pow_pos z))
    ∙ ap (λ (y : ℕ). fin false (q * 2 ^ z / 2 ^ y) (minus (1022 + y) 1074)) tz
    ∙ ap₂ (λ (y : ℕ) (e : ℤ). fin false y e) dm (minus-neg (1022 + (t + z)) 1074 (j - t) back)))
  where
    pos_of : (m p : ℕ) → 0 < m * p → 0 < m
    pos_of zero p h = absurd (lt_irrefl 0 (lt_of_lt_of_le h (le_of_eq (zero-mul p))))
    pos_of (suc m) p h = zero-lt-suc m

-- ---- bits

-- the field x above the digits t, and no sign
normal-fields : (s : Bool) (e t x u : ℕ) → s ≡ false → e ≡ suc x → t ≡ u → x < 2046 → of_fields binary64 s e t ≡ odd 53 false (2 ^ 52 + u) x 1074
unfolding of_fields
normal-fields s e t x u hs he ht h = rw (hs, he, ht, ne_eqb (suc x) 2047 (omega arith))

normal-bits : (x u : ℕ) → x < 2046 → u < 2 ^ 52 → of_bits binary64 (suc x * 2 ^ 52 + u) ≡ odd 53 false (2 ^ 52 + u) x 1074
unfolding of_bits
normal-bits x u h l =
    let b = suc x * 2 ^ 52 + u in
    let under : b < 2 ^ 63 = omega arith in
    normal-fields (leb (2 ^ 63) b) (b % 2 ^ 63 / 2 ^ 52) (b % 2 ^ 52) x u (lt-leb (2 ^ 63) b under) (ap (λ (n : ℕ). n / 2 ^ 52) (mod-eq_of_lt under) ∙ omega arith) (omega arith) h

small-fields : (s : Bool) (e t u : ℕ) → s ≡ false → e ≡ 0 → t ≡ u → of_fields binary64 s e t ≡ odd 53 false u 0 1074
unfolding of_fields
small-fields s e t u hs he ht = rw (hs, he, ht)

small-bits : (u : ℕ) → u < 2 ^ 52 → of_bits binary64 u ≡ odd 53 false u 0 1074
unfolding of_bits
small-bits u l =
    let under : u < 2 ^ 63 = omega arith in
    small-fields (leb (2 ^ 63) u) (u % 2 ^ 63 / 2 ^ 52) (u % 2 ^ 52) u (lt-leb (2 ^ 63) u under) (ap (λ (n : ℕ). n / 2 ^ 52) (mod-eq_of_lt under) ∙ omega arith) (omega arith)

-- digits with the field of 1: what `ln_digits` reads is q in [1, 2)
unit-bits : (q : ℕ) → 2 ^ 52 ≤ q → q < 2 ^ 53 → of_bits binary64 (1023 * 2 ^ 52 + (q - 2 ^ 52)) ≡ odd 53 false q 1022 1074
unit-bits q lo hi =
    let b : 2 ^ 52 + (q - 2 ^ 52) ≡ q = omega arith in
    normal-bits 1022 (q - 2 ^ 52) (omega arith) (omega arith) ∙ ap (λ (y : ℕ). odd 53 false y 1022 1074) b

odd_no_nan : (d : ℕ) (s : Bool) (q k l : ℕ) → is_nan (odd d s q k l) ≡ false
unfolding odd is_nan
odd_no_nan d s zero k l = refl
odd_no_nan d s (suc q) k l = refl

pub unit-no-nan : (t : ℕ) → t < 2 ^ 52 → is_nan (of_bits binary64 (1023 * 2 ^ 52 + t)) ≡ false
unit-no-nan t h = ap is_nan (normal-bits 1022 t (omega arith) h) ∙ odd_no_nan 53 false (2 ^ 52 + t) 1022 1074

pub ln-normal : (b x : ℕ) → x ≡ b / 2 ^ 52 → 0 < x → b < 2047 * 2 ^ 52 → ln_of (of_bits binary64 b) ≡ ln_in (of_bits binary64 (1023 * 2 ^ 52 + (b - x * 2 ^ 52))) (minus (x + 51) 1074)
ln-normal b zero e p h = absurd (lt_irrefl 0 p)
ln-normal b (suc x) e p h =
    let u = b - suc x * 2 ^ 52 in
    let bu : suc x * 2 ^ 52 + u ≡ b = omega arith in
    let ul : u < 2 ^ 52 = omega arith in
    let q : 2 ^ 52 + u - 2 ^ 52 ≡ u = omega arith in
    let k : x + 52 ≡ suc x + 51 = omega arith in
    ap (λ (y : ℕ). ln_of (of_bits binary64 y)) (sym bu)
    ∙ ap ln_of (normal-bits x u (omega arith) ul)
    ∙ ln-odd (2 ^ 52 + u) 52 x (omega arith) (omega arith) (omega arith)
    ∙ ap₂ ln_in (ap (λ (y : ℕ). odd 53 false y 1022 1074) (mul-one (2 ^ 52 + u)) ∙ sym (unit-bits (2 ^ 52 + u) (omega arith) (omega arith)) ∙
    ap (λ (y : ℕ). of_bits binary64 (1023 * 2 ^ 52 + y)) q) (ap (λ (y : ℕ). minus y 1074) k)

-- the place of a subnormal's leading digit, and what its shift gives
pub record Placed (b z : ℕ) : Type 0 where
  pub least : 11 ≤ count_leading_zeros 64 b
  pub most : z ≤ 52
  pub low : 2 ^ 52 ≤ b * 2 ^ z
  pub high : b * 2 ^ z < 2 ^ 53
  pub is : ln_of (of_bits binary64 b) ≡ ln_in (of_bits binary64 (1023 * 2 ^ 52 + (b * 2 ^ z - 2 ^ 52))) (minus (52 - z) 1074)

pub placed : (b : ℕ) → 0 < b → b < 2 ^ 52 → Placed b (count_leading_zeros 64 b - 11)
placed b p h =
    let w = leading_top 64 b p (omega arith) in
    let j = w.0 in
    let jl : j < 52 = under_back j 52 (lt_of_le_of_lt w.2 h) in
    let e : count_leading_zeros 64 b - 11 ≡ 52 - j = omega (arith, w.1) in
    let back : 52 - (52 - j) ≡ j = omega arith in
    let lo : 2 ^ 52 ≤ b * 2 ^ (52 - j) = le_trans (le_of_eq (ap (λ (y : ℕ). 2 ^ y) (split j jl) ∙ pow-add 2 j (52 - j))) (mul-le-mul_right (2 ^ (52 - j)) w.2) in
    let hi : b * 2 ^ (52 - j) < 2 ^ 53 = subst (λ (y : ℕ). b * 2 ^ (52 - j) < 2 ^ y) (top j jl) (shl_lt (suc j) (52 - j) w.3) in
    let is : ln_of (of_bits binary64 b) ≡ ln_in (of_bits binary64 (1023 * 2 ^ 52 + (b * 2 ^ (52 - j) - 2 ^ 52))) (minus (52 - (52 - j)) 1074) =
    ap ln_of (small-bits b h)
    ∙ ln-odd b j 0 w.2 w.3 (omega arith)
    ∙ ap₂ ln_in (sym (unit-bits (b * 2 ^ (52 - j)) lo hi)) (ap (λ (y : ℕ). minus y 1074) (same j jl)) in
    record {
      least = omega (arith, w.1);
      most = omega (arith, e);
      low = rw e lo;
      high = rw e hi;
      is = rw e is;
    }
  where
    split : (j : ℕ) → j < 52 → 52 ≡ j + (52 - j)
    split j h = omega arith

    top : (j : ℕ) → j < 52 → suc j + (52 - j) ≡ 53
    top j h = omega arith

    same : (j : ℕ) → j < 52 → 0 + j ≡ 52 - (52 - j)
    same j h = omega arith

-- ---- the halving

pub ln-halved : (m : Float) (k : ℤ) → lt root2 m ≡ true → ln_at (div binary64 m two64) (k +ℤ pos 1) ≡ ln_in m k
unfolding ln_in
ln-halved m k h = rw h

pub ln-whole : (m : Float) (k : ℤ) → lt root2 m ≡ false → ln_at m k ≡ ln_in m k
unfolding ln_in
ln-whole m k h = rw h

-- ---- the cases of ln

abbrev zero64 : Float
zero64 = fin false 0 (pos 0)

pub ln-nan : (v : Float) → is_nan v ≡ true → nan ≡ ln_of v
unfolding ln_of
ln-nan v e = rw (nan-only v e)

pub ln-none : (v : Float) → le v zero64 ≡ true → nan ≡ ln_of v
unfolding ln_of le lt eq
ln-none nan e = refl
ln-none (inf true) e = refl
ln-none (inf false) e = absurd (true≢false (sym e))
ln-none (fin true zero e) h = refl
ln-none (fin false zero e) h = refl
ln-none (fin true (suc m) e) h = refl
ln-none (fin false (suc m) e) h = absurd (true≢false (sym h ∙ above))
  where
    big : 0 < suc m * up e * 1
    big = mul-pos (mul-pos (zero-lt-suc m) (up_pos e)) (zero-lt-suc 0)

    none : (n k : ℕ) → 0 < n → k ≡ 0 → (ltb n k || (eqb n k && (true || eqb n 0))) ≡ false
    none n k h z = rw (z, le-ltb n 0 (omega arith), ne_eqb n 0 (λ q. lt_irrefl 0 (subst (λ (x : ℕ). 0 < x) q h)))

    above : (ltb (suc m * up e * 1) (0 * 2 ^ 0 * down e) || (eqb (suc m * up e * 1) (0 * 2 ^ 0 * down e) && (true || eqb (suc m * up e * 1) 0))) ≡ false
    above = none (suc m * up e * 1) (0 * 2 ^ 0 * down e) big (zero-mul (down e))

pub ln-inf : (v : Float) → eq v (inf false) ≡ true → v ≡ ln_of v
unfolding ln_of eq
ln-inf nan e = refl
ln-inf (inf true) e = absurd (true≢false (sym e))
ln-inf (inf false) e = refl
ln-inf (fin s m k) e = absurd (true≢false (sym e))

-- what is left is a positive number
fin-only : (v : Float) → ne v v ≡ false → le v zero64 ≡ false → eq v (inf false) ≡ false → (m : ℕ) × (e : ℤ) × (v ≡ fin false (suc m) e)
unfolding ne le lt eq
fin-only nan a b c = absurd (true≢false a)
fin-only (inf true) a b c = absurd (true≢false b)
fin-only (inf false) a b c = absurd (true≢false c)
fin-only (fin s zero e) a b c = absurd (true≢false (sym (zeros s (0 * up e * 1) (0 * 2 ^ 0 * down e) (ap (λ (x : ℕ). x * 1) (zero-mul (up e)) ∙ refl) (zero-mul (down e))) ∙ b))
  where
    zeros : (s : Bool) (n k : ℕ) → n ≡ 0 → k ≡ 0 → (below s n false k || level s n false k) ≡ true
    zeros true n k p q = rw (p, q)
    zeros false n k p q = rw (p, q)
fin-only (fin true (suc m) e) a b c = absurd (true≢false (sym (under (suc m * up e * 1) (0 * 2 ^ 0 * down e) (mul-pos (mul-pos (zero-lt-suc m) (up_pos e)) (zero-lt-suc 0))) ∙ b))
  where
    under : (n k : ℕ) → 0 < n → (ltb 0 (n + k) || level true n false k) ≡ true
    under n k h = rw (lt-ltb 0 (n + k) (omega arith))
fin-only (fin false (suc m) e) a b c = (m, e, refl)

-- its bits have no sign, and a field below the highest
unfoldable signed : Float → Bool
signed nan = true
signed (inf s) = true
signed (fin s m e) = s

odd-signed : (d : ℕ) (s : Bool) (q k l : ℕ) → signed (odd d s q k l) ≡ s
unfolding odd signed
odd-signed d s zero k l = refl
odd-signed d s (suc q) k l = refl

fields-signed : (s : Bool) (x t : ℕ) → signed (of_fields binary64 s x t) ≡ false → (s ≡ false) × (x ≡ 2047 → ⊥)
unfolding of_fields signed
fields-signed s zero t h = (sym (odd-signed 53 s t 0 1074) ∙ h, λ q. absurd (not-suc-le-zero (subst (λ (y : ℕ). 0 < y) (sym q) (lit< tt))))
fields-signed s (suc x) t h = go (eqb (suc x) 2047) refl h
  where
    top : (b : Bool) → signed (cond b (inf s) nan) ≡ false → ⊥
    top true h = true≢false h
    top false h = true≢false h

    go : (b : Bool) → eqb (suc x) 2047 ≡ b → signed (cond b (cond (eqb t 0) (inf s) nan) (odd 53 s (2 ^ 52 + t) x 1074)) ≡ false → (s ≡ false) × (suc x ≡ 2047 → ⊥)
    go true e h = absurd (top (eqb t 0) h)
    go false e h = (sym (odd-signed 53 s (2 ^ 52 + t) x 1074) ∙ h, λ q. true≢false (sym (eq-eqb (suc x) 2047 q) ∙ e))

bits-under : (b : ℕ) → b < 2 ^ 64 → signed (of_bits binary64 b) ≡ false → b < 2047 * 2 ^ 52
unfolding of_bits
bits-under b h e =
    let w = fields-signed (leb (2 ^ 63) b) (b % 2 ^ 63 / 2 ^ 52) (b % 2 ^ 52) e in
    let l : b < 2 ^ 63 = leb-false (2 ^ 63) b w.0 in
    let f : b % 2 ^ 63 / 2 ^ 52 ≡ b / 2 ^ 52 = ap (λ (n : ℕ). n / 2 ^ 52) (mod-eq_of_lt l) in
    close b l (λ q. w.1 (f ∙ q))
  where
    close : (b : ℕ) → b < 2 ^ 63 → (b / 2 ^ 52 ≡ 2047 → ⊥) → b < 2047 * 2 ^ 52
    close b l n = omega arith

bits_above : (b m : ℕ) (e : ℤ) → of_bits binary64 b ≡ fin false (suc m) e → 0 < b
unfolding of_bits
bits_above zero m e h = absurd (not-zero h)
  where
    digits : Float → ℕ
    digits nan = 0
    digits (inf s) = 0
    digits (fin s m e) = m

    not-zero : fin false 0 (pos 0) ≡ fin false (suc m) e → ⊥
    not-zero q = lt_irrefl 0 (subst (λ (y : ℕ). 0 < y) (sym (ap digits q)) (zero-lt-suc m))
bits_above (suc b) m e h = zero-lt-suc b

pub positive-bits : (v : Float) → T (fits binary64 v) → ne v v ≡ false → le v zero64 ≡ false → eq v (inf false) ≡ false → (0 < to_bits binary64 v) × (to_bits binary64 v < 2047 * 2 ^ 52)
unfolding signed
positive-bits v f a b c =
    let w = fin-only v a b c in
    let back = of_bits-to_bits binary64 v f ∙ w.2 in
    (bits_above (to_bits binary64 v) w.0 w.1 back, bits-under (to_bits binary64 v) (to_bits-lt binary64 v f) (ap signed back))

-- ---- that the definition splits a value as the scope paper says: m in [1, 2), and the value is m * 2 ^ k

-- with p the weight of the leading digit, p <= m < 2 * p: m / p lies in [1, 2)
pub in-one-two : (m : ℕ) → 0 < m → (2 ^ (size m - 1) ≤ m) × (m < 2 * 2 ^ (size m - 1))
in-one-two m h = go (size m) (size-lt m) (λ j l. size_reaches m j l)
  where
    go : (z : ℕ) → m < 2 ^ z → ((j : ℕ) → j < z → 2 ^ j ≤ m) → (2 ^ (z - 1) ≤ m) × (m < 2 * 2 ^ (z - 1))
    go zero l r = absurd (lt_irrefl 0 (lt_of_lt_of_le h (le_of_suc-le-suc l)))
    go (suc z) l r = let e : suc z - 1 ≡ z = omega arith in rw e (r z (omega arith), lt_of_lt_of_le l (le_of_eq (pow-succ' 2 z)))

-- the exponents add up
pub whole-value : (m : ℕ) (e : ℤ) → neg_ℤ (pos (size m - 1)) +ℤ exponent m e ≡ e
whole-value m e =
    let d = pos (size m - 1) in
    ap (λ (x : ℤ). neg_ℤ d +ℤ x) (+ℤ_comm e d) ∙ sym (+ℤ_assoc (neg_ℤ d) d e) ∙ ap (λ (x : ℤ). x +ℤ e) (+ℤ_invl d) ∙ +ℤ_idl e
