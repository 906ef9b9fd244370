-- From -745 to 709 exp is t·2^k, rounded once. And exp of a value with the sign -: finite, with the sign +, and at most 14. The bound is coarse; it is enough
-- for what the weights need. Assumes nothing.
use Rattle.std.proofs.Common.{◌≡◌, ℕ, zero, suc, ◌+◌, ◌-◌, ◌*◌, ◌^◌, ◌<◌, ◌≤◌, Bool, true, false, cond, T, ltb, ℤ, pos, negsuc, ◌+ℤ◌, neg_ℤ, sym, refl, ap, ◌∙◌, subst}
use Rattle.std.proofs.Common.{⊎_elim, true≢false, le_trans, le_of_eq, lt_of_lt_of_le, not-suc-le-zero, le_of_lt, mul-le-mul_right, mul_assoc, suc-mul, mul_comm, add-mul, add_comm}
use Rattle.std.proofs.Common.{mul-lt-mul_of_pos_right, mul-pos, one-mul, zero-mul, mul-one, mul_right_comm, mul_left_comm, arith, lit<, lit≤, pow_pos, ltb-false, le-ltb}
use lib.Ieee.{Float, inf, fin, binary64, up, down, unlike, round, sum, neg, add, sub, mul, div, lt, ne, fits, of_int, of_bits, is_nan, nan}
use lib.Ieee.Fits.{down_pos, add-fits}
use lib.Ieee.Exact.{HasValue, round_exact}
use lib.Ieee.Back.{round_whole}
use lib.Ieee.Scale.{round_same}
use lib.Ieee.Positive.{through}
use Rattle.laws.specs.Area.{zero64, one64}
use Rattle.laws.proofs.Numbers.{order}
use Rattle.elementary.specs.Exp.{ln2hi, ln2lo, low745, low708, high709, near_up, signed, whole_near, at_most, reduced, series, power, exp_k, exp_t, exp_in, exp_under, exp_of}
use Rattle.elementary.specs.Limits.{up_to_whole}
use Rattle.elementary.proofs.Sizes.{sign_plus, Signed, Most, Least, Held, Sized, sized, sized-next, sized-most, sized-add, held_whole, signed_round}
use Rattle.elementary.proofs.Sizes.{most-round, least-round, most-neg, within-most, bounded, whole-sized, sum-apart, most-add, most-mul, sized-mul}
use Rattle.elementary.proofs.Sizes.{sized-div, whole-signed, whole-least, one-is, one-sized, plain-less}
use Rattle.elementary.proofs.Range.{NL, near_le, near-ge, fraction, bottom, quotient-minus, under-is, exp-range-under, exp-under, exp-in}
use Rattle.elementary.proofs.Scaled.{Fair, Times, times-exact, times-normal, times-once}

-- ---- the whole number nearest to a quotient A / B once it is rounded: A / B is at most 1 away from it

-- the whole number that a negative value - z is nearest to, but for its sign: no whole number at or above z is below it, none at or below z is above it
record Whole (z : Float) : Type 0 where
  whole : ℕ
  is : whole_near (neg z) ≡ neg_ℤ (pos whole)
  small : whole ≤ 1075
  least : (j : ℕ) → at_most z j → whole ≤ j
  most : (j : ℕ) → Least j 1 z → j ≤ whole

whole_of : (z : Float) → sign_plus z → at_most z 1075 → Whole z
unfolding whole_near signed neg
whole_of (fin true m e) p w = absurd (true≢false p)
whole_of (fin false m e) p w = record {
  whole = near_up (m * up e) (down e);
  is = refl;
  small = near_le (m * up e) (down e) 1075 (down_pos e) w;
  least = λ j l. near_le (m * up e) (down e) j (down_pos e) l;
  most = λ j l. near-ge (m * up e) (down e) j (down_pos e) (le_trans l (le_of_eq (mul-one (m * up e))));
}
whole_of nan p w = elim p [ ]
whole_of (inf _) p w = elim w [ ]

module _ (A B : ℕ) (h : 0 < B) (k : A ≤ 1075 * B) where
  abbrev rounded : Float
  rounded = round binary64 false A B

  in-range : at_most rounded 1075
  in-range = bounded A B 1075 h (lit≤ tt) k

  found : Whole rounded
  found = whole_of rounded (signed_round binary64 false A B) in-range

  found-reached : (found.whole - 1) * B ≤ A
  found-reached = ⊎_elim
      (λ l. l)
      (λ l. absurd (no found.whole (found.least (found.whole - 1) (bounded A B (found.whole - 1) h (le_trans (less found.whole found.small) (lit≤ tt)) (le_of_lt l))) l))
      (order A ((found.whole - 1) * B))
    where
      less : (n : ℕ) → n ≤ 1075 → n - 1 ≤ 1075
      less n h = omega arith

      no : (n : ℕ) → n ≤ n - 1 → A < (n - 1) * B → ⊥
      no zero h l = not-suc-le-zero (le_trans l (le_of_eq (zero-mul B)))
      no (suc n) h l = omega arith

  found_passed : A ≤ (found.whole + 1) * B
  found_passed = ⊎_elim
      (λ l. l)
      (λ l. absurd (no found.whole (found.most (found.whole + 1)
      (least-round A B (found.whole + 1) 1 1075 1 h (lit< tt) (held_whole (found.whole + 1) (more found.whole found.small))
      (within-most 1075 rounded in-range) (omega (arith, l))))))
      (order ((found.whole + 1) * B) A)
    where
      more : (n : ℕ) → n ≤ 1075 → n + 1 ≤ 2 ^ 53
      more n h = omega arith

      no : (n : ℕ) → n + 1 ≤ n → ⊥
      no n h = omega arith

-- ---- what is left of x after that many logarithms of 2

-- HI is NH / 2 ^ 32
abbrev NH : ℕ
NH = 0xb17217f7

hi-is : ln2hi ≡ fin false NH (negsuc 31)
unfolding of_bits
hi-is = refl

-- LO is NO / 2 ^ 84
abbrev NO : ℕ
NO = 0xd1cf79abc9e3b

lo-is : ln2lo ≡ fin false NO (negsuc 83)
unfolding of_bits
lo-is = refl

-- the format holds 0 / 8, 1 / 8, 6 / 8 and 7 / 8
none-held : Held 0 8
unfolding round
none-held = (refl, refl)

eighth : Held 1 8
unfolding round
eighth = (refl, refl)

six-eighths : Held 6 8
unfolding round
six-eighths = (refl, refl)

seven-eighths : Held 7 8
unfolding round
seven-eighths = (refl, refl)

-- k·HI is exact
times-hi : (y : Float) (k : ℕ) → HasValue y true k 1 → k ≤ 1075 → HasValue (mul binary64 y (fin false NH (negsuc 31))) true (k * NH) (2 ^ 32)
unfolding mul
times-hi (fin false m e) k v h = absurd (true≢false (sym v.0))
times-hi (fin true m e) k v h =
    let small : k * NH < 2 ^ 53 = omega (arith, h) in
    subst (λ (z : Float). HasValue z true (k * NH) (2 ^ 32))
    (sym (round_same binary64 true (m * up e * (NH * 1)) (down e * 2 ^ 32) (k * NH) (2 ^ 32) (mul-pos (down_pos e) (pow_pos 32)) (pow_pos 32)
    (same (m * up e) (down e) (sym (mul-one (m * up e)) ∙ v.1))))
    (round_exact binary64 true (k * NH) (2 ^ 32) (k * NH) 1042 (pow_pos 32) small (lt_of_lt_of_le (mul-lt-mul_of_pos_right small (pow_pos 1042)) (lit≤ tt))
    (sym (mul_assoc (k * NH) (2 ^ 1042) (2 ^ 32))))
  where
    same : (M D : ℕ) → M ≡ k * D → M * (NH * 1) * 2 ^ 32 ≡ k * NH * (D * 2 ^ 32)
    same M D e = omega (arith, ap (λ (x : ℕ). x * NH) e, mul_right_comm k D NH, mul_assoc (k * NH) D (2 ^ 32))
times-hi nan k v h = elim v [ ]
times-hi (inf _) k v h = elim v [ ]

-- a is the magnitude of x and b that of k·HI, each times c; jc is (|k| - 1)·c. L and HI are between 45426 / 65536 and 45427 / 65536
gap-coarse : (a b c jc : ℕ) → jc ≤ 1075 * c → a * 65536 ≤ 45427 * (jc + c + c) → 45426 * jc ≤ a * 65536 → b * 65536 ≤ 45427 * (jc + c) →
    45426 * (jc + c) ≤ b * 65536 → (a * 8 ≤ b * 8 + 6 * c) × (b * 8 ≤ a * 8 + 6 * c)
gap-coarse a b c jc h p q u v = (omega arith, omega arith)

gap : (a b c jc : ℕ) → jc ≤ 1075 * c → a * 2 ^ 53 ≤ NL * (jc + c + c) → NL * jc ≤ a * 2 ^ 53 → b * 2 ^ 32 ≡ NH * (jc + c) → (a * 8 ≤ b * 8 + 6 * c) × (b * 8 ≤ a * 8 + 6 * c)
gap a b c jc h l r e =
    gap-coarse a b c jc h
    (through a NL 45427 (jc + c + c) (2 ^ 53) 65536 (pow_pos 53) l (lit≤ tt))
    (through 45426 NL a 65536 (2 ^ 53) jc (pow_pos 53) (lit≤ tt) r)
    (through b NH 45427 (jc + c) (2 ^ 32) 65536 (pow_pos 32) (le_of_eq e) (lit≤ tt))
    (through 45426 NH b 65536 (2 ^ 32) (jc + c) (pow_pos 32) (lit≤ tt) (le_of_eq (sym e)))

regroup : (n X D G : ℕ) → n * (X * D) * G ≡ X * (n * (D * G))
regroup n X D G = ap (λ (k : ℕ). k * G) (mul_left_comm n X D) ∙ mul_assoc X (n * D) G ∙ ap (λ (k : ℕ). X * k) (mul_assoc n D G)

two-more : (j C : ℕ) → (suc j + 1) * C ≡ j * C + C + C
two-more j C = add-mul (suc j) 1 C ∙ ap (λ (k : ℕ). k + 1 * C) (suc-mul j C) ∙ ap (λ (k : ℕ). j * C + C + k) (one-mul C)

-- x - k·HI, for k = - (j + 1)
first-left : (m : ℕ) (e : ℤ) (y : Float) (j : ℕ) → j ≤ 1074 → HasValue y true (suc j * NH) (2 ^ 32) → j * (NL * down e) ≤ m * up e * 2 ^ 53 →
    m * up e * 2 ^ 53 ≤ (suc j + 1) * (NL * down e) → Most 6 8 (sub binary64 (fin true m e) y)
unfolding sub add neg
first-left m e (fin false n g) j h v l r = absurd (true≢false (sym v.0))
first-left m e (fin true n g) j h v l r =
    let M = m * up e in
    let D = down e in
    let N = n * up g in
    let G = down g in
    let C = D * G in
    let parts = gap (M * G) (N * D) C (j * C)
    (mul-le-mul_right C (le_trans h (lit≤ tt)))
    (le_trans (le_of_eq (mul_right_comm M G (2 ^ 53))) (le_trans (mul-le-mul_right G r) (le_of_eq (regroup (suc j + 1) NL D G ∙ ap (λ (k : ℕ). NL * k) (two-more j C)))))
    (le_trans (le_of_eq (sym (regroup j NL D G))) (le_trans (mul-le-mul_right G l) (le_of_eq (mul_right_comm M (2 ^ 53) G))))
    (mul_right_comm N D (2 ^ 32)
    ∙ ap (λ (k : ℕ). k * D) v.1
    ∙ ap (λ (k : ℕ). k * G * D) (mul_comm (suc j) NH)
    ∙ ap (λ (k : ℕ). k * D) (mul_assoc NH (suc j) G)
    ∙ mul_assoc NH (suc j * G) D
    ∙ ap (λ (k : ℕ). NH * k) (mul_assoc (suc j) G D ∙ ap (λ (k : ℕ). suc j * k) (mul_comm G D) ∙ suc-mul j C)) in
    sum-apart true (M * G) (N * D) C 6 8 (mul-pos (down_pos e) (down_pos g)) (lit< tt) six-eighths parts.0 parts.1
first-left m e nan j h v l r = elim v [ ]
first-left m e (inf _) j h v l r = elim v [ ]

-- (x - k·HI) - k·LO, for a whole k of at most 1075 in magnitude
second-left : (y k : Float) → Most 1075 1 k → Most 6 8 y → Most 7 8 (sub binary64 y (mul binary64 k ln2lo))
unfolding sub
second-left y k p q =
    let lo : Most 1 8 (mul binary64 k ln2lo) = subst (λ (z : Float). Most 1 8 (mul binary64 k z)) (sym lo-is)
    (most-mul 1075 1 1 (2 ^ 32) 1 8 k (fin false NO (negsuc 83)) (lit< tt) (pow_pos 32) (lit< tt) eighth (lit≤ tt) p (lit≤ tt)) in
    most-add 6 1 8 y (neg (mul binary64 k ln2lo)) (lit< tt) seven-eighths q (most-neg 1 8 (mul binary64 k ln2lo) lo)

-- r is at most 7 / 8 in magnitude, for k = - n where |x| is at most one L away from n·L
reduced-small : (m : ℕ) (e : ℤ) (n : ℕ) → n ≤ 1075 → (n - 1) * (NL * down e) ≤ m * up e * 2 ^ 53 → m * up e * 2 ^ 53 ≤ (n + 1) * (NL * down e) → Most 7 8 (reduced (fin true m e) (neg_ℤ (pos n)))
unfolding reduced of_int sub
reduced-small m e zero h l r =
    let none : Most 0 1 (round binary64 false 0 1) = most-round false 0 1 0 1 (lit< tt) (lit< tt) (held_whole 0 (lit≤ tt)) (lit≤ tt) in
    let y = mul binary64 (round binary64 false 0 1) ln2hi in
    let hi : Most 0 8 y = subst (λ (z : Float). Most 0 8 (mul binary64 (round binary64 false 0 1) z)) (sym hi-is)
    (most-mul 0 1 1 1 0 8 (round binary64 false 0 1) (fin false NH (negsuc 31)) (lit< tt) (lit< tt) (lit< tt) none-held (lit≤ tt) none (lit≤ tt)) in
    second-left (add binary64 (fin true m e) (neg y)) (round binary64 false 0 1) (wide (round binary64 false 0 1) none)
    (most-add 6 0 8 (fin true m e) (neg y) (lit< tt) six-eighths own (most-neg 0 8 y hi))
  where
    own : m * up e * 8 ≤ 6 * down e
    own = through (m * up e) NL 6 (down e) (2 ^ 53) 8 (pow_pos 53) (omega (arith, r)) (lit≤ tt)

    wide : (z : Float) → Most 0 1 z → Most 1075 1 z
    wide (fin s k g) w = omega (arith, w)
    wide nan w = elim w [ ]
    wide (inf _) w = elim w [ ]
reduced-small m e (suc j) h l r =
    let k = round binary64 true (suc j) 1 in
    let y = mul binary64 k ln2hi in
    let v : HasValue y true (suc j * NH) (2 ^ 32) = subst (λ (z : Float). HasValue (mul binary64 k z) true (suc j * NH) (2 ^ 32)) (sym hi-is)
    (times-hi k (suc j) (round_whole binary64 true (suc j) (le_trans h (lit≤ tt))) h) in
    second-left (add binary64 (fin true m e) (neg y)) k
    (most-round true (suc j) 1 1075 1 (lit< tt) (lit< tt) (held_whole 1075 (lit≤ tt)) (omega (arith, h)))
    (first-left m e y j (omega (arith, h)) v (subst (λ (i : ℕ). i * (NL * down e) ≤ m * up e * 2 ^ 53) (less j) l) r)
  where
    less : (j : ℕ) → suc j - 1 ≡ j
    less j = omega arith

-- ---- the series

-- (r / m)·t
term : (s : Bool) (n p q : ℕ) (r t : Float) (m : ℕ) → suc m ≤ 13 → 0 < q → Held p q → 7 * n * q ≤ p * 8 → Sized s 7 8 r → Sized false n 1 t →
    Sized s p q (mul binary64 (div binary64 r (of_int binary64 (pos (suc m)))) t)
term s n p q r t m h c v l y z =
    let f = of_int binary64 (pos (suc m)) in
    let w = whole-signed (suc m) in
    subst (λ (b : Bool). Sized b p q (mul binary64 (div binary64 r f) t)) (twice s)
    (sized-mul (unlike s false) false 7 8 n 1 p q (div binary64 r f) t (lit< tt) (lit< tt) c v l
    (sized-div s false 7 8 1 1 7 8 r f (lit< tt) (lit< tt) (lit< tt) seven-eighths (lit≤ tt) y w (whole-least (suc m) (omega arith) (le_trans h (lit≤ tt)))) z)
  where
    twice : (s : Bool) → unlike (unlike s false) false ≡ s
    twice true = refl
    twice false = refl

one-fair : Fair 1 one64
unfolding of_bits
one-fair = ((refl, lit≤ tt), lit≤ tt)

-- what is left is at least 1 / 8
less-least : (a b c : ℕ) → 0 < c → b ≤ a → 1 * c ≤ (a - b) * 8 → Most 1 1 (sum binary64 false a true b c) → Least 1 8 (sum binary64 false a true b c)
unfolding sum
less-least a b c h l g w = rw (le-ltb a b l) (least-round (a - b) c 1 8 1 1 h (lit< tt) eighth (rw (le-ltb a b l) at w) g)

-- one less a value that is at most 7 / 8
one-less-of : (z : Float) → Sized true 7 8 z → Fair 1 (add binary64 (fin false 1 (pos 0)) z)
unfolding add
one-less-of (fin false n g) p = absurd (true≢false (sym p.0))
one-less-of (fin true n g) p =
    let A = 1 * 2 ^ 0 * down g in
    let B = n * up g * 1 in
    let C = 1 * down g in
    let most : Most 1 1 (sum binary64 false A true B C) = sum-apart false A B C 1 1 (omega (arith, down_pos g)) (lit< tt) (held_whole 1 (lit≤ tt)) (omega arith) (omega (arith, p.1)) in
    (sized false 1 1 (sum binary64 false A true B C) (plain-less A B C (omega (arith, p.1))) most, less-least A B C (omega (arith, down_pos g)) (omega (arith, p.1)) (omega (arith, p.1)) most)
one-less-of nan p = elim p [ ]
one-less-of (inf _) p = elim p [ ]

one_less : (z : Float) → Sized true 7 8 z → Fair 1 (add binary64 one64 z)
one_less z p = subst (λ (o : Float). Fair 1 (add binary64 o z)) (sym one-is) (one-less-of z p)

more-least : (n k : ℕ) (z : Float) → Sized false n 1 z → Most k 1 (add binary64 (fin false 1 (pos 0)) z) → Least 1 8 (add binary64 (fin false 1 (pos 0)) z)
unfolding add sum
more-least n k (fin true i g) p w = absurd (true≢false p.0)
more-least n k (fin false i g) p w = least-round (1 * 2 ^ 0 * down g + i * up g * 1) (1 * down g) 1 8 k 1 (omega (arith, down_pos g)) (lit< tt) eighth w (omega arith)
more-least n k nan p w = elim p [ ]
more-least n k (inf _) p w = elim p [ ]

-- one more than a value
one_more : (n : ℕ) (z : Float) → n + 1 ≤ 2 ^ 53 → Sized false n 1 z → Fair (n + 1) (add binary64 one64 z)
one_more n z h p =
    let w = subst (λ (k : ℕ). Sized false k 1 (add binary64 one64 z)) (add_comm 1 n) (sized-add 1 n 1 one64 z (lit< tt) (held_whole (1 + n) (omega (arith, h))) one-sized p) in
    (w, subst (λ (o : Float). Most (n + 1) 1 (add binary64 o z) → Least 1 8 (add binary64 o z)) (sym one-is) (more-least n (n + 1) z p) (sized-most false (n + 1) 1 (add binary64 one64 z) w))

-- r is not above 0: every t stays between 1 / 8 and 1
series-falling : (r : Float) (m : ℕ) (t : Float) → m ≤ 13 → Sized true 7 8 r → Fair 1 t → Fair 1 (series r m t)
unfolding series
series-falling r zero t h p q = q
series-falling r (suc m) t h p q = series-falling r m (add binary64 one64 (mul binary64 (div binary64 r (of_int binary64 (pos (suc m)))) t)) (omega (arith, h)) p
    (one_less (mul binary64 (div binary64 r (of_int binary64 (pos (suc m)))) t) (term true 1 7 8 r t m h (lit< tt) seven-eighths (lit≤ tt) p q.0))

-- r is not below 0: every t is at most 1 more than the one before
series-rising : (r : Float) (m n : ℕ) (t : Float) → m ≤ 13 → n + m ≤ 14 → Sized false 7 8 r → Fair n t → Fair 14 (series r m t)
unfolding series
series-rising r zero n t h k p q = (sized-next false n 14 1 t (omega (arith, k)) q.0, q.1)
series-rising r (suc m) n t h k p q = series-rising r m (n + 1) (add binary64 one64 (mul binary64 (div binary64 r (of_int binary64 (pos (suc m)))) t))
    (omega (arith, h)) (omega (arith, k)) p
    (one_more n (mul binary64 (div binary64 r (of_int binary64 (pos (suc m)))) t) (omega (arith, k))
    (term false n n 1 r t m h (lit< tt) (held_whole n (omega (arith, k))) (omega arith) p q.0))

-- whichever sign r has
series-fair : (r : Float) → Most 7 8 r → Fair 14 (series r 13 one64)
series-fair (fin true m e) p =
    let w = series-falling (fin true m e) 13 one64 (lit≤ tt) (refl, p) one-fair in
    (sized-next false 1 14 1 (series (fin true m e) 13 one64) (lit≤ tt) w.0, w.1)
series-fair (fin false m e) p = series-rising (fin false m e) 13 1 one64 (lit≤ tt) (lit≤ tt) (refl, p) one-fair
series-fair nan p = elim p [ ]
series-fair (inf _) p = elim p [ ]

series-fits : (r : Float) (m : ℕ) (t : Float) → T (fits binary64 t) → T (fits binary64 (series r m t))
unfolding series
series-fits r zero t h = h
series-fits r (suc m) t h = series-fits r m (add binary64 one64 (mul binary64 (div binary64 r (of_int binary64 (pos (suc m)))) t))
    (add-fits binary64 one64 (mul binary64 (div binary64 r (of_int binary64 (pos (suc m)))) t))

t-fits : (x : Float) → T (fits binary64 (exp_t x))
unfolding of_bits fits
t-fits x = series-fits (reduced x (exp_k x)) 13 one64 tt

-- ---- k and t from -745 on

-- k is - n, and t is from 1 / 8 to 14
record Split (x : Float) : Type 0 where
  whole : ℕ
  is : exp_k x ≡ neg_ℤ (pos whole)
  fair : Fair 14 (exp_t x)

split_at : (m : ℕ) (e : ℤ) → m * up e ≤ 745 * down e → Split (fin true m e)
split_at m e h =
    let A = m * up e * 2 ^ 53 in
    let B = NL * 1 * down e in
    let l : A ≤ 1075 * B = fraction m e 745 1075 h (lit≤ tt) in
    let w = found A B (bottom e) l in
    let n = w.whole in
    let k : exp_k (fin true m e) ≡ neg_ℤ (pos n) = ap whole_near (quotient-minus m e) ∙ w.is in
    record {
      whole = n;
      is = k;
      fair = subst (λ (k : ℤ). Fair 14 (series (reduced (fin true m e) k) 13 one64)) (sym k)
          (series-fair (reduced (fin true m e) (neg_ℤ (pos n)))
          (reduced-small m e n w.small (found-reached A B (bottom e) l) (found_passed A B (bottom e) l)));
    }

-- ---- below -708: what is worked out there is t·2^k, rounded once

t-under : (x : Float) → lt x low745 ≡ false → lt x low708 ≡ true → Fair 14 (exp_t x)
t-under x b l = let u = under-is x b l in rw u.is (split_at u.size u.exponent u.most).fair

-- t·2^(k + 64) is exact
pub exp-scaled-exact : (x : Float) → lt x low745 ≡ false → lt x low708 ≡ true → Times (exp_t x) (exp_k x +ℤ pos 64) (mul binary64 (exp_t x) (power (exp_k x +ℤ pos 64)))
exp-scaled-exact x b l = times-exact (exp_t x) (exp_k x +ℤ pos 64) (t-fits x) (t-under x b l) (exp-range-under x b l).1

-- and a normal number: at least 2^-1022
pub exp-scaled-normal : (x : Float) → lt x low745 ≡ false → lt x low708 ≡ true → Least 1 (2 ^ 1022) (mul binary64 (exp_t x) (power (exp_k x +ℤ pos 64)))
exp-scaled-normal x b l = times-normal (exp_t x) (exp_k x +ℤ pos 64) (t-fits x) (t-under x b l) (exp-range-under x b l).1

-- so the product by 2^-64 is the one rounding
under-once : (x : Float) → lt x low745 ≡ false → lt x low708 ≡ true → exp_under x ≡ exp_in x
unfolding exp_under exp_in
under-once x b l = times-once (exp_t x) (exp_k x) (t-fits x) (t-under x b l) (exp-range-under x b l).0

-- from -745 to 709 the answer is t·2^k itself, rounded once, although the format need not hold 2^k
pub exp-once : (x : Float) → ne x x ≡ false → lt x low745 ≡ false → lt high709 x ≡ false → exp_of x ≡ exp_in x
exp-once x a b c = go (lt x low708) refl
  where
    go : (l : Bool) → lt x low708 ≡ l → exp_of x ≡ exp_in x
    go true l = exp-under x a b c l ∙ under-once x b l
    go false l = exp-in x a b c l

-- ---- exp

power_small : (n : ℕ) → Sized false 1 1 (power (neg_ℤ (pos n)))
unfolding power
power_small zero = (refl, lit≤ tt)
power_small (suc n) = (refl, le_trans (pow_pos (suc n)) (le_of_eq (sym (one-mul (2 ^ suc n)))))

small-in : (m : ℕ) (e : ℤ) → ltb (745 * down e) (m * up e * 1) ≡ false → up_to_whole (exp_in (fin true m e)) 14
unfolding exp_in
small-in m e h =
    let w = split_at m e (omega (arith, ltb-false (745 * down e) (m * up e * 1) h)) in
    whole-sized 14 (exp_in (fin true m e))
    (sized-mul false false 14 1 1 1 14 1 (exp_t (fin true m e)) (power (exp_k (fin true m e))) (lit< tt) (lit< tt) (lit< tt) (held_whole 14 (lit≤ tt)) (lit≤ tt)
    w.fair.0 (rw w.is (power_small w.whole)))

-- of every value with the sign -, so also of -0.0 and minus infinity, exp is finite, with the sign +, and at most 14
pub exp-falling : (x : Float) → Signed true x → up_to_whole (exp_of x) 14
unfolding exp_of is_nan lt of_bits neg
exp-falling (inf false) p = absurd (true≢false (sym p))
exp-falling (inf true) p = (refl, lit≤ tt)
exp-falling (fin false m e) p = absurd (true≢false (sym p))
exp-falling (fin true m e) p = go (ltb (745 * down e) (m * up e * 1)) (ltb (708 * down e) (m * up e * 1)) refl refl
  where
    go : (b l : Bool) → ltb (745 * down e) (m * up e * 1) ≡ b → ltb (708 * down e) (m * up e * 1) ≡ l → up_to_whole (cond b zero64 (cond l (exp_under (fin true m e)) (exp_in (fin true m e)))) 14
    go true l h u = (refl, lit≤ tt)
    go false true h u = subst (λ (z : Float). up_to_whole z 14) (sym (under-once (fin true m e) h u)) (small-in m e h)
    go false false h u = small-in m e h
exp-falling nan p = elim p [ ]
