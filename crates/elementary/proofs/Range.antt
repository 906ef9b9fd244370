-- The range of k, with its signs: from -1021 to 1023 between -708 and 709, from -1075 to -1021 between -745 and -708. Assumes nothing.
use Rattle.std.proofs.Common.{◌≡◌, ℕ, zero, suc, ◌+◌, ◌*◌, ◌^◌, ◌<◌, ◌≤◌, true, false, ℤ, pos, negsuc, ◌+ℤ◌, neg_ℤ, sym, refl, ap, ◌∙◌, true≢false}
use Rattle.std.proofs.Common.{le_trans, le_of_eq, le_of_suc-le-suc, not-suc-le-zero, mul-le-mul_right, mul_assoc, suc-mul, div-lt_iff_lt-mul, mul-pos, le-div_iff_mul-le, mul-one}
use Rattle.std.proofs.Common.{mul_right_comm, mul_left_comm, arith, lit<, lit≤, w64, SFits, ltb-false, ltb-true, lt-ltb}
use lib.Ieee.{Float, nan, inf, fin, binary64, up, down, round, neg, div, lt, ne, eq, of_bits, is_nan}
use lib.Ieee.Fits.{down_pos}
use Rattle.elementary.proofs.Nans.{nan-only, not-nan}
use Rattle.elementary.proofs.Sizes.{sign_plus, Most, Least, Held, neg-round, signed_round, held_whole, most-round, least-round, within-most, bounded}
use Rattle.elementary.specs.Exp.{ln2, low745, low708, high709, near_up, signed, whole_near, exp_k, at_most, from_minus, between_minus, in_exp, exp_of, exp_in, exp_under}

-- ---- the whole number nearest to a bounded value

within-neg : (z : Float) (n : ℕ) → at_most z n → at_most (neg z) n
unfolding neg
within-neg nan n w = w
within-neg (inf s) n w = w
within-neg (fin s m e) n w = w

pub near_le : (M D n : ℕ) → 0 < D → M ≤ n * D → near_up M D ≤ n
unfolding near_up
near_le M D n h l = le_of_suc-le-suc ((div-lt_iff_lt-mul {k = 2 * D} {x = 2 * M + D} {y = suc n} (omega (arith, h))).1 (rw (suc-mul n (2 * D), mul_left_comm n 2 D) (omega (arith, h, l))))

-- a quotient below 1021.5 in magnitude is nearest to no more than 1021
near-half-le : (M D : ℕ) → 0 < D → M * 16 ≤ 16343 * D → near_up M D ≤ 1021
unfolding near_up
near-half-le M D h l = le_of_suc-le-suc ((div-lt_iff_lt-mul {k = 2 * D} {x = 2 * M + D} {y = 1022} (omega (arith, h))).1 (omega (arith, h, l)))

pub near-ge : (M D n : ℕ) → 0 < D → n * D ≤ M → n ≤ near_up M D
unfolding near_up
near-ge M D n h l = (le-div_iff_mul-le {k = 2 * D} {x = n} {y = 2 * M + D} (omega (arith, h))).1 (rw (mul_left_comm n 2 D) (omega (arith, l)))

minus-whole : (k : ℕ) → k ≤ 1021 → from_minus 1021 1023 (neg_ℤ (pos k))
minus-whole zero h = omega arith
minus-whole (suc k) h = omega arith

minus-between : (k : ℕ) → 1021 ≤ k → k ≤ 1075 → between_minus 1075 1021 (neg_ℤ (pos k))
minus-between zero l h = absurd (not-suc-le-zero l)
minus-between (suc k) l h = (l, h)

-- what the rounded quotient z of a magnitude is nearest to, for x = z·L and for x = - z·L
whole-plus : (z : Float) → sign_plus z → at_most z 1023 → from_minus 1021 1023 (whole_near z)
unfolding whole_near signed
whole-plus (fin true m e) p w = absurd (true≢false p)
whole-plus (fin false m e) p w = near_le (m * up e) (down e) 1023 (down_pos e) w
whole-plus nan p w = elim p [ ]
whole-plus (inf _) p w = elim w [ ]

whole-minus : (z : Float) → sign_plus z → Most 16343 16 z → from_minus 1021 1023 (whole_near (neg z))
unfolding whole_near signed neg
whole-minus (fin true m e) p w = absurd (true≢false p)
whole-minus (fin false m e) p w = minus-whole (near_up (m * up e) (down e)) (near-half-le (m * up e) (down e) (down_pos e) w)
whole-minus nan p w = elim p [ ]
whole-minus (inf _) p w = elim w [ ]

whole-under : (z : Float) → sign_plus z → at_most z 1075 → Least 1021 1 z → between_minus 1075 1021 (whole_near (neg z))
unfolding whole_near signed neg
whole-under (fin true m e) p w l = absurd (true≢false p)
whole-under (fin false m e) p w l = minus-between (near_up (m * up e) (down e))
    (near-ge (m * up e) (down e) 1021 (down_pos e) (le_trans l (le_of_eq (mul-one (m * up e))))) (near_le (m * up e) (down e) 1075 (down_pos e) w)
whole-under nan p w l = elim p [ ]
whole-under (inf _) p w l = elim w [ ]

-- ---- the quotient

abbrev pub NL : ℕ
NL = 0x162e42fefa39ef

pub ln2-is : ln2 ≡ fin false NL (negsuc 52)
unfolding of_bits
ln2-is = refl

pub fraction : (m : ℕ) (e : ℤ) (n k : ℕ) → m * up e ≤ n * down e → n * 2 ^ 53 ≤ k * NL → m * up e * 2 ^ 53 ≤ k * (NL * 1 * down e)
fraction m e n k h l =
    le_trans (mul-le-mul_right (2 ^ 53) h)
    (le_trans (le_of_eq (mul_right_comm n (down e) (2 ^ 53)))
    (le_trans (mul-le-mul_right (down e) l)
    (le_of_eq (mul_assoc k NL (down e) ∙ ap (λ (x : ℕ). k * (x * down e)) (sym (mul-one NL))))))

pub bottom : (e : ℤ) → 0 < NL * 1 * down e
bottom e = mul-pos (lit< {m = 0} {n = NL * 1} tt) (down_pos e)

-- the quotient of a magnitude m·2^e by L, rounded
abbrev pub quotient : ℕ → ℤ → Float
quotient m e = round binary64 false (m * up e * 2 ^ 53) (NL * 1 * down e)

pub quotient-plus : (m : ℕ) (e : ℤ) → div binary64 (fin false m e) ln2 ≡ quotient m e
unfolding div
quotient-plus m e = ap (div binary64 (fin false m e)) ln2-is

pub quotient-minus : (m : ℕ) (e : ℤ) → div binary64 (fin true m e) ln2 ≡ neg (quotient m e)
unfolding div
quotient-minus m e = ap (div binary64 (fin true m e)) ln2-is ∙ sym (neg-round binary64 (m * up e * 2 ^ 53) (NL * 1 * down e))

quotient-most : (m : ℕ) (e : ℤ) (n k : ℕ) → m * up e ≤ n * down e → n * 2 ^ 53 ≤ k * NL → k ≤ 2 ^ 53 → at_most (quotient m e) k
quotient-most m e n k h l b = bounded (m * up e * 2 ^ 53) (NL * 1 * down e) k (bottom e) b (fraction m e n k h l)

-- the format holds 1021.4375
sixteenths-held : Held 16343 16
unfolding round
sixteenths-held = (refl, refl)

sixteenths : (m : ℕ) (e : ℤ) → m * up e ≤ 708 * down e → m * up e * 2 ^ 53 * 16 ≤ 16343 * (NL * 1 * down e)
sixteenths m e h = omega (arith, h)

sign-quotient : (m : ℕ) (e : ℤ) → sign_plus (quotient m e)
sign-quotient m e = signed_round binary64 false (m * up e * 2 ^ 53) (NL * 1 * down e)

-- from -745 to 709 the quotient is at most 1075 in magnitude
pub exp-quotient : (x : Float) → ne x x ≡ false → lt x low745 ≡ false → lt high709 x ≡ false → at_most (div binary64 x ln2) 1075
unfolding ne eq lt of_bits neg
exp-quotient nan a b c = absurd (true≢false a)
exp-quotient (inf true) a b c = absurd (true≢false b)
exp-quotient (inf false) a b c = absurd (true≢false c)
exp-quotient (fin false m e) a b c = rw (quotient-plus m e) (quotient-most m e 709 1075 (omega (arith, ltb-false (709 * 2 ^ 0 * down e) (m * up e * 1) c)) (lit≤ tt) (lit≤ tt))
exp-quotient (fin true m e) a b c = rw (quotient-minus m e)
    (within-neg (quotient m e) 1075 (quotient-most m e 745 1075 (omega (arith, ltb-false (745 * 2 ^ 0 * down e) (m * up e * 1) b)) (lit≤ tt) (lit≤ tt)))

-- from -708 to 709, k is from -1021 to 1023
pub exp-range : (x : Float) → ne x x ≡ false → lt x low708 ≡ false → lt high709 x ≡ false → from_minus 1021 1023 (exp_k x)
unfolding ne eq lt of_bits neg
exp-range nan a b c = absurd (true≢false a)
exp-range (inf true) a b c = absurd (true≢false b)
exp-range (inf false) a b c = absurd (true≢false c)
exp-range (fin false m e) a b c = rw (quotient-plus m e)
    (whole-plus (quotient m e) (sign-quotient m e)
    (quotient-most m e 709 1023 (omega (arith, ltb-false (709 * 2 ^ 0 * down e) (m * up e * 1) c)) (lit≤ tt) (lit≤ tt)))
exp-range (fin true m e) a b c =
    rw (quotient-minus m e)
    (whole-minus (quotient m e) (sign-quotient m e)
    (most-round false (m * up e * 2 ^ 53) (NL * 1 * down e) 16343 16 (bottom e) (lit< tt) sixteenths-held (sixteenths m e (omega (arith, ltb-false (177 * 2 ^ 2 * down e) (m * up e * 1) b)))))

-- what lies from -745 to -708 is a negative number
pub record Under (x : Float) : Type 0 where
  pub size : ℕ
  pub exponent : ℤ
  pub is : x ≡ fin true size exponent
  pub most : size * up exponent ≤ 745 * down exponent
  pub least : 708 * down exponent ≤ size * up exponent

pub under-is : (x : Float) → lt x low745 ≡ false → lt x low708 ≡ true → Under x
unfolding lt of_bits neg
under-is nan b l = absurd (true≢false (sym l))
under-is (inf true) b l = absurd (true≢false b)
under-is (inf false) b l = absurd (true≢false (sym l))
under-is (fin false m e) b l = absurd (true≢false (sym l))
under-is (fin true m e) b l = record {
  size = m;
  exponent = e;
  is = refl;
  most = omega (arith, ltb-false (745 * 2 ^ 0 * down e) (m * up e * 1) b);
  least = omega (arith, ltb-true (177 * 2 ^ 2 * down e) (m * up e * 1) l);
}

lifted : (k : ℤ) → between_minus 1075 1021 k → between_minus 1011 957 (k +ℤ pos 64)
lifted (negsuc n) h = rw (lt-ltb 64 (suc n) (omega (arith, h.0))) (omega (arith, h.0), omega (arith, h.1))
lifted (pos _) h = elim h [ ]

under-range : (m : ℕ) (e : ℤ) → m * up e ≤ 745 * down e → 708 * down e ≤ m * up e → between_minus 1075 1021 (exp_k (fin true m e))
under-range m e h l =
    let w = quotient-most m e 745 1075 h (lit≤ tt) (lit≤ tt) in
    rw (quotient-minus m e)
    (whole-under (quotient m e) (sign-quotient m e) w
    (least-round (m * up e * 2 ^ 53) (NL * 1 * down e) 1021 1 1075 1 (bottom e) (lit< tt) (held_whole 1021 (lit≤ tt)) (within-most 1075 (quotient m e) w) (omega (arith, l))))

-- from -745 to -708, k is from -1075 to -1021, and k + 64 from -1011 to -957
pub exp-range-under : (x : Float) → lt x low745 ≡ false → lt x low708 ≡ true → between_minus 1075 1021 (exp_k x) × between_minus 1011 957 (exp_k x +ℤ pos 64)
exp-range-under x b l =
    let u = under-is x b l in
    let k = under-range u.size u.exponent u.most u.least in
    rw u.is (k, lifted (exp_k (fin true u.size u.exponent)) k)

-- ---- k and k + 64 are exponents of normal numbers, and fit an i64

in-normal : (k : ℤ) → from_minus 1021 1023 k → in_exp k
in-normal (pos n) h = h
in-normal (negsuc n) h = omega (arith, h)

raised-normal : (k : ℤ) → between_minus 1011 957 k → in_exp k × SFits w64 k
raised-normal (negsuc n) h = (omega (arith, h.1), record { sfits = omega (arith, h.1) })
raised-normal (pos _) h = elim h [ ]

pub exp-normal : (x : Float) → ne x x ≡ false → lt x low708 ≡ false → lt high709 x ≡ false → in_exp (exp_k x)
exp-normal x a b c = in-normal (exp_k x) (exp-range x a b c)

pub exp-raised : (x : Float) → lt x low745 ≡ false → lt x low708 ≡ true → in_exp (exp_k x +ℤ pos 64) × SFits w64 (exp_k x +ℤ pos 64)
exp-raised x b l = raised-normal (exp_k x +ℤ pos 64) (exp-range-under x b l).1

-- ---- the cases of exp

pub exp-nan : (x : Float) → is_nan x ≡ true → nan ≡ exp_of x
unfolding exp_of is_nan
exp-nan x e = rw (nan-only x e)

pub exp-low : (x : Float) → ne x x ≡ false → lt x low745 ≡ true → exp_of x ≡ of_bits binary64 0
unfolding exp_of
exp-low x n l = rw (not-nan x n, l)

pub exp-high : (x : Float) → ne x x ≡ false → lt x low745 ≡ false → lt high709 x ≡ true → exp_of x ≡ inf false
unfolding exp_of
exp-high x n l h = rw (not-nan x n, l, h)

pub exp-under : (x : Float) → ne x x ≡ false → lt x low745 ≡ false → lt high709 x ≡ false → lt x low708 ≡ true → exp_of x ≡ exp_under x
unfolding exp_of
exp-under x n l h u = rw (not-nan x n, l, h, u)

pub exp-in : (x : Float) → ne x x ≡ false → lt x low745 ≡ false → lt high709 x ≡ false → lt x low708 ≡ false → exp_of x ≡ exp_in x
unfolding exp_of
exp-in x n l h u = rw (not-nan x n, l, h, u)
