-- A value's whole part, by rounding beside 2^52: what the proof of `half_up` cites. Assumes nothing.
use mathlib.Core.Path.{◌≡◌, refl, sym, ap, subst, ◌∙◌}
use mathlib.Core.Bool.{true, false, not, true≢false}
use Prim.Native.Nat.{ℕ, suc, ◌+◌, ◌-◌, ◌*◌, ◌/◌, ◌^◌, ◌<◌, ◌≤◌, min}
use native.Mathlib.Omega.{arith}
use native.Mathlib.Nat.{le_trans, le_of_eq, lt_irrefl, lt_of_lt_of_le, lt_of_not-le, mul-one, one-mul, mul_comm}
use native.Mathlib.Nat.{mul_right_comm, mul-pos, mul-le-mul_right, mul-le-mul, add-mul, le-div_iff_mul-le, div-lt_iff_lt-mul, lt_of_mul-lt-mul_right}
use native.Mathlib.Nat.{le_of_mul-le-mul_right, pow-succ', div-le_of_le-mul, le_refl, le_antisymm, suc-mul, le_of_suc-le-suc, lt_of_le_of_lt, not-suc-le-zero}
use native.Mathlib.Nat.{zero-mul}
use lib.Pow.{pow_pos}
use lib.IntN.{ℤ, pos, negsuc}
use lib.Dec.{T, lit<, lit≤, le→leb}
use lib.Ieee.{Float, nan, inf, fin, binary64, up, down, round, sum, add, sub, neg, lt, fits, of_int, of_bits, in_float, in_signed, to_signed, to_unsigned}
use lib.Ieee.Exact.{HasValue}
use lib.Ieee.Fits.{down_pos, round-fits, of_int-fits}
use lib.Ieee.Scale.{round_same}
use lib.Ieee.Back.{round_whole, whole_unique, positive_back}
use borrow.Author.Tests.{ltb-true, ltb-false, le-ltb}
use mir.Syntax.{w32}
use mir.Val.{SFits}
use native.Mathlib.Numerals.{add-one}
use Rattle.elementary.specs.Exp.{at_most}
use Rattle.elementary.specs.Limits.{up_to_whole}
use Rattle.elementary.proofs.Near.{digits}
use Rattle.elementary.proofs.Sizes.{Signed, sign_plus, Most, Least, signed_round, held_whole, most-round, least-round, most-neg, most-add, within-most}

-- ---- a value from 2^52 on has no fraction

-- between n and n + 1 it is one of them
record Near (y : Float) (n : ℕ) : Type 0 where
  whole : ℕ
  least : n ≤ whole
  most : whole ≤ n + 1
  is : y ≡ of_int binary64 (pos whole)

no_fraction : (y : Float) (n : ℕ) → 2 ^ 52 ≤ n → n + 1 ≤ 2 ^ 53 → T (fits binary64 y) → sign_plus y → Most (n + 1) 1 y → Least n 1 y → Near y n
unfolding of_int
no_fraction (fin true m e) n l h f p a b = absurd (true≢false p)
no_fraction (fin false m (pos e)) n l h f p a b = record {
  whole = m * 2 ^ e;
  least = omega (arith, b);
  most = omega (arith, a);
  is = whole_unique binary64 (fin false m (pos e)) (round binary64 false (m * 2 ^ e) 1) false (m * 2 ^ e) f (of_int-fits binary64 (pos (m * 2 ^ e))) (refl, refl)
      (round_whole binary64 false (m * 2 ^ e) (omega (arith, a, h)));
}
no_fraction (fin false m (negsuc e)) n l h f p a b =
    let c : 2 ^ 52 * 2 ≤ n * 2 ^ suc e = mul-le-mul l (le_trans (le_of_eq (sym (mul-one 2))) (le_trans (mul-le-mul (lit≤ {m = 2} {n = 2} tt) (pow_pos e)) (le_of_eq (sym (pow-succ' 2 e))))) in
    absurd (lt_irrefl m (lt_of_lt_of_le (digits false m (negsuc e) f).0 (le_trans c (le_trans b (le_of_eq (mul-one (m * 1) ∙ mul-one m))))))
no_fraction nan n l h f p a b = elim p [ ]
no_fraction (inf _) n l h f p a b = elim a [ ]

near-sum : (a d n : ℕ) → 0 < d → 2 ^ 52 ≤ n → n + 1 ≤ 2 ^ 53 → n * d ≤ a → a ≤ (n + 1) * d → Near (round binary64 false a d) n
near-sum a d n p l h b t =
    let most = most-round false a d (n + 1) 1 p (lit< tt) (held_whole (n + 1) h) (le_trans (le_of_eq (mul-one a)) t) in
    no_fraction (round binary64 false a d) n l h (round-fits binary64 false a d) (signed_round binary64 false a d) most
    (least-round a d n 1 (n + 1) 1 p (lit< tt) (held_whole n (omega arith)) most (le_trans b (le_of_eq (sym (mul-one a)))))

-- ---- w, and w beside 2^52

abbrev pub shift52 : Float
shift52 = of_bits binary64 0x4330000000000000

-- a whole number less 2^52
less-shift : (x : Float) (n : ℕ) → HasValue x false (2 ^ 52 + n) 1 → sub binary64 x shift52 ≡ round binary64 false n 1
unfolding sub add sum neg of_bits
less-shift (fin true m e) n v = absurd (true≢false v.0)
less-shift (fin false m e) n v =
    let d = down e in
    let a = m * up e * 1 in
    let b = 1 * 2 ^ 52 * d in
    let q : a ≡ b + n * d = v.1 ∙ add-mul (2 ^ 52) n d ∙ ap (λ (z : ℕ). z * d + n * d) (sym (one-mul (2 ^ 52))) in
    let r : a - b ≡ n * d = omega (arith, q) in
    rw (le-ltb a b (omega (arith, q)), r) (round_same binary64 false (n * d) (d * 1) n 1 (mul-pos (down_pos e) (lit< tt)) (lit< tt) (mul-one (n * d) ∙ ap (λ (z : ℕ). n * z) (sym (mul-one d))))
less-shift nan n v = elim v [ ]
less-shift (inf _) n v = elim v [ ]

-- w rounded to a whole number is its whole part or the next one, and the test tells which
pub record Rounded (w : Float) : Type 0 where
  pub whole : ℕ
  pub is : sub binary64 (add binary64 w shift52) shift52 ≡ of_int binary64 (pos whole)
  pub small : whole ≤ 2151
  pub above : lt w (of_int binary64 (pos whole)) ≡ true → whole ≡ to_unsigned 64 w + 1
  pub under : lt w (of_int binary64 (pos whole)) ≡ false → whole ≡ to_unsigned 64 w

more-than : (m : ℕ) (e : ℤ) (z : Float) (n : ℕ) → HasValue z false n 1 → lt (fin false m e) z ≡ true → m * up e < n * down e
unfolding lt
more-than m e (fin true p g) n v h = absurd (true≢false v.0)
more-than m e (fin false p g) n v h =
    lt_of_mul-lt-mul_right (down g) (lt_of_lt_of_le (ltb-true (m * up e * down g) (p * up g * down e) h)
    (le_of_eq (ap (λ (z : ℕ). z * down e) (sym (mul-one (p * up g)) ∙ v.1) ∙ mul_right_comm n (down g) (down e))))
more-than m e nan n v h = elim v [ ]
more-than m e (inf _) n v h = elim v [ ]

at-most-of : (m : ℕ) (e : ℤ) (z : Float) (n : ℕ) → HasValue z false n 1 → lt (fin false m e) z ≡ false → n * down e ≤ m * up e
unfolding lt
at-most-of m e (fin true p g) n v h = absurd (true≢false v.0)
at-most-of m e (fin false p g) n v h =
    le_of_mul-le-mul_right {k = down g}
    (le_trans (le_of_eq (sym (ap (λ (z : ℕ). z * down e) (sym (mul-one (p * up g)) ∙ v.1) ∙ mul_right_comm n (down g) (down e))))
    (ltb-false (m * up e * down g) (p * up g * down e) h)) (down_pos g)
at-most-of m e nan n v h = elim v [ ]
at-most-of m e (inf _) n v h = elim v [ ]

-- a / d, whose whole part is w, beside 2^52
near-at : (a d w : ℕ) → 0 < d → w * d ≤ a → a < w * d + d → w ≤ 2150 → Near (round binary64 false (a * 1 + 1 * 2 ^ 52 * d) (d * 1)) (2 ^ 52 + w)
near-at a d w p lo hi h =
    near-sum (a * 1 + 1 * 2 ^ 52 * d) (d * 1) (2 ^ 52 + w) (mul-pos p (lit< tt)) (omega arith) (omega arith)
    (le_trans (le_of_eq (ap (λ (z : ℕ). (2 ^ 52 + w) * z) (mul-one d) ∙ add-mul (2 ^ 52) w d)) (omega (arith, lo)))
    (le_trans (omega (arith, hi)) (le_of_eq (sym (ap (λ (z : ℕ). (2 ^ 52 + w + 1) * z) (mul-one d) ∙ add-mul (2 ^ 52 + w) 1 d ∙ ap (λ (z : ℕ). z + 1 * d) (add-mul (2 ^ 52) w d)))))

whole_part : (w : ℕ) → w ≤ 2150 → min w (2 ^ 64 - 1) ≡ w
whole_part w h = omega arith

pub rounded : (w : Float) → up_to_whole w 2150 → Rounded w
unfolding add sum of_bits of_int to_unsigned
rounded (fin true m e) h = absurd (true≢false h.0)
rounded (fin false m e) h =
    let a = m * up e in
    let d = down e in
    let w = a / d in
    let dp = down_pos e in
    let lo : w * d ≤ a = (le-div_iff_mul-le {k = d} {x = w} {y = a} dp).0 (le_refl w) in
    let hi : a < suc w * d = (div-lt_iff_lt-mul {k = d} {x = a} {y = suc w} dp).0 (le_refl (suc w)) in
    let few : w ≤ 2150 = div-le_of_le-mul d (le_trans h.1 (le_of_eq (mul_comm 2150 d))) in
    let near = near-at a d w dp lo (lt_of_lt_of_le hi (le_of_eq (suc-mul w d))) few in
    let n = near.whole - 2 ^ 52 in
    let k : near.whole ≡ 2 ^ 52 + n = omega (arith, near.least) in
    let value : HasValue (round binary64 false n 1) false n 1 = round_whole binary64 false n (omega (arith, near.most, few)) in
    let is-w : min w (2 ^ 64 - 1) ≡ w = whole_part w few in
    record {
      whole = n;
      is = ap (λ (z : Float). sub binary64 z shift52) near.is ∙
          less-shift _ n (subst (λ (i : ℕ). HasValue (round binary64 false near.whole 1) false i 1) k
          (round_whole binary64 false near.whole (omega (arith, near.most, few))));
      small = omega (arith, near.most, few);
      above = λ l. le_antisymm (omega (arith, near.most, is-w))
          (subst (λ (i : ℕ). i + 1 ≤ n) (sym is-w)
          (le_trans (le_of_eq (add-one w))
          (lt_of_not-le (λ (g : n ≤ w). lt_irrefl a (lt_of_lt_of_le (more-than m e _ n value l) (le_trans (mul-le-mul_right d g) lo))))));
      under = λ l. le_antisymm (subst (λ (i : ℕ). n ≤ i) (sym is-w) (le_of_suc-le-suc (lt_of_mul-lt-mul_right d (lt_of_le_of_lt (at-most-of m e _ n value l) hi)))) (omega (arith, near.least, is-w));
    }
rounded nan h = elim h [ ]
rounded (inf _) h = elim h [ ]

-- ---- as machine numbers

pub whole-cast : (n : ℕ) → n ≤ 2151 → T (in_signed binary64 31 (of_int binary64 (pos n))) × (to_signed 31 (of_int binary64 (pos n)) ≡ pos n)
unfolding in_float
whole-cast n h = positive_back binary64 31 n (le→leb n (2 ^ 53) (omega arith)) (omega arith)

pub whole-in-w32 : (n : ℕ) → n ≤ 2151 → SFits w32 (pos n)
whole-in-w32 n h = record { sfits = omega arith }

-- ---- minus twice a quotient below 0

minus_plus : (z : Float) → Signed true z → sign_plus (neg z)
unfolding neg
minus_plus (inf s) p = ap not p
minus_plus (fin s m e) p = ap not p
minus_plus nan p = elim p [ ]

twice-sign : (q : Float) → lt q (of_bits binary64 0) ≡ true → at_most q 1075 → sign_plus (neg (add binary64 q q))
unfolding add sum lt of_bits
twice-sign (fin true m e) h w = minus_plus (round binary64 true (m * up e * down e + m * up e * down e) (down e * down e))
    (signed_round binary64 true (m * up e * down e + m * up e * down e) (down e * down e))
twice-sign (fin false m e) h w = absurd (not-suc-le-zero (le_trans (ltb-true (m * up e * 1) (0 * 2 ^ 0 * down e) h) (le_of_eq (zero-mul (down e)))))
twice-sign nan h w = elim w [ ]
twice-sign (inf _) h w = elim w [ ]

sized-up : (z : Float) (n : ℕ) → sign_plus z → Most n 1 z → up_to_whole z n
sized-up (fin s m e) n p w = (p, omega (arith, w))
sized-up nan n p w = elim p [ ]
sized-up (inf _) n p w = elim w [ ]

pub twice-whole : (q : Float) → lt q (of_bits binary64 0) ≡ true → at_most q 1075 → up_to_whole (neg (add binary64 q q)) 2150
twice-whole q h w = sized-up (neg (add binary64 q q)) 2150 (twice-sign q h w)
    (most-neg 2150 1 (add binary64 q q) (most-add 1075 1075 1 q q (lit< tt) (held_whole 2150 (lit≤ tt)) (within-most 1075 q w) (within-most 1075 q w)))
