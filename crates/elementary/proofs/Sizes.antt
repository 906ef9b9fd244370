-- Rounding keeps a sign and a bound, so bounds on the operands are bounds on a sum, a product and a quotient. Assumes nothing.
use Rattle.std.proofs.Common.{◌≡◌, ℕ, zero, suc, ◌+◌, ◌-◌, ◌*◌, ◌^◌, ◌<◌, ◌≤◌, Bool, true, false, cond, not, ◌&&◌, ◌||◌, T, eqb, ltb, ◌⊎◌, ℤ, pos, sym, refl, ap, ◌∙◌}
use Rattle.std.proofs.Common.{subst, inl, inr, ⊎_elim, true≢false, le_trans, le_of_eq, lt_of_lt_of_le, le_of_lt, lt_irrefl, mul-le-mul_right, mul_assoc, mul_comm}
use Rattle.std.proofs.Common.{add-mul, mul-le-mul, mul-pos, zero-mul, mul-one, mul_right_comm, arith, lit<, lit≤, eqb→eq, ltb→lt, le-ltb, ne_eqb}
use mathlib.Core.Bool.{beq}
use native.Mathlib.Nat.{mul-sub, mul-mul-mul_comm}
use lib.Ieee.{Float, nan, inf, fin, Format, binary64, prec, emax, low, up, down, unlike, odd, units, round, sum, neg, add, mul, div, lt, le, eq, of_int, of_bits}
use lib.Ieee.Fits.{down_pos, round_is, and_l}
use lib.Ieee.Exact.{HasValue}
use lib.Ieee.Back.{round_whole}
use lib.Ieee.Order.{round_mono}
use lib.Ieee.Positive.{through}
use denote.Floats.{passes}
use Rattle.laws.specs.Area.{zero64, one64, two64}
use Rattle.laws.proofs.Bools.{and_left, and_right}
use Rattle.elementary.specs.Exp.{at_most}
use Rattle.elementary.specs.Limits.{up_to_whole, not_negative, unless_above, up_to, large, in_domain}

-- ---- the sign of what is rounded

neg-odd : (d q k l : ℕ) → neg (odd d false q k l) ≡ odd d true q k l
unfolding neg odd
neg-odd d zero k l = refl
neg-odd d (suc q) k l = refl

neg-units : (f : Format) (q k : ℕ) → neg (units f false q k) ≡ units f true q k
unfolding units neg
neg-units f q k = go (ltb (q * 2 ^ k) (2 ^ (low f + suc (emax f))))
  where
    go : (b : Bool) → neg (cond b (odd (suc (prec f)) false q k (low f)) (inf false)) ≡ cond b (odd (suc (prec f)) true q k (low f)) (inf true)
    go true = neg-odd (suc (prec f)) q k (low f)
    go false = refl

pub neg-round : (f : Format) (a b : ℕ) → neg (round f false a b) ≡ round f true a b
neg-round f a b = ap neg (round_is f false a b) ∙ neg-units f _ _ ∙ sym (round_is f true a b)

-- not NaN, and with the sign s
abbrev pub Signed : Bool → Float → Type 0
Signed s nan = ⊥
Signed s (inf t) = t ≡ s
Signed s (fin t m e) = t ≡ s

-- with the sign +
abbrev pub sign_plus : Float → Type 0
sign_plus x = Signed false x

signed_odd : (d : ℕ) (s : Bool) (q k l : ℕ) → Signed s (odd d s q k l)
unfolding odd
signed_odd d s zero k l = refl
signed_odd d s (suc q) k l = refl

signed_units : (f : Format) (s : Bool) (q k : ℕ) → Signed s (units f s q k)
unfolding units
signed_units f s q k = go (ltb (q * 2 ^ k) (2 ^ (low f + suc (emax f))))
  where
    go : (b : Bool) → Signed s (cond b (odd (suc (prec f)) s q k (low f)) (inf s))
    go true = signed_odd (suc (prec f)) s q k (low f)
    go false = refl

pub signed_round : (f : Format) (s : Bool) (a b : ℕ) → Signed s (round f s a b)
signed_round f s a b = subst (Signed s) (sym (round_is f s a b)) (signed_units f s _ _)

-- ---- a bound on the fraction is a bound on what is rounded

-- finite, and of magnitude at most n / d
abbrev pub Most : ℕ → ℕ → Float → Type 0
Most n d nan = ⊥
Most n d (inf s) = ⊥
Most n d (fin s m e) = m * up e * d ≤ n * down e

-- finite, and of magnitude at least n / d
abbrev pub Least : ℕ → ℕ → Float → Type 0
Least n d nan = ⊥
Least n d (inf s) = ⊥
Least n d (fin s m e) = n * down e ≤ m * up e * d

-- the format holds n / d
abbrev pub Held : ℕ → ℕ → Type 0
Held n d = HasValue (round binary64 false n d) false n d

pub held_whole : (n : ℕ) → n ≤ 2 ^ 53 → Held n 1
held_whole n h = round_whole binary64 false n h

or_cases : (a b : Bool) → T (a || b) → T a ⊎ T b
or_cases true b t = inl tt
or_cases false b t = inr t

by-test : (a b : ℕ) (c : Bool) → (T c → a ≡ b) → T (ltb a b || c) → a ≤ b
by-test a b c e t = ⊎_elim (λ x. le_of_lt (ltb→lt a b x)) (λ x. le_of_eq (e x)) (or_cases (ltb a b) c t)

ordered : (m : ℕ) (e : ℤ) (k : ℕ) (g : ℤ) → T (le (fin false m e) (fin false k g)) → m * up e * down g ≤ k * up g * down e
unfolding le lt eq
ordered m e k g t =
    let A = m * up e * down g in
    let B = k * up g * down e in
    by-test A B (eqb A B && (true || eqb A 0)) (λ x. eqb→eq A B (and_l (eqb A B) (true || eqb A 0) x)) t

ordered-minus : (m : ℕ) (e : ℤ) (k : ℕ) (g : ℤ) → T (le (fin true m e) (fin true k g)) → k * up g * down e ≤ m * up e * down g
unfolding le lt eq
ordered-minus m e k g t =
    let A = m * up e * down g in
    let B = k * up g * down e in
    by-test B A (eqb A B && (true || eqb A 0)) (λ x. sym (eqb→eq A B (and_l (eqb A B) (true || eqb A 0) x))) t

infinite-above : (s : Bool) (m : ℕ) (e : ℤ) → s ≡ false → T (le (inf s) (fin false m e)) → ⊥
unfolding le lt eq
infinite-above true m e p t = true≢false p
infinite-above false m e p t = t

under : (z y : Float) (n d : ℕ) → sign_plus z → HasValue y false n d → T (le z y) → Most n d z
under (inf s) (fin true k g) n d p v t = absurd (true≢false v.0)
under (inf s) (fin false k g) n d p v t = infinite-above s k g p t
under (fin true m e) y n d p v t = absurd (true≢false p)
under (fin false m e) (fin true k g) n d p v t = absurd (true≢false v.0)
under (fin false m e) (fin false k g) n d p v t = through (m * up e) (k * up g) n (down e) (down g) d (down_pos g) (ordered m e k g t) (le_of_eq v.1)
under nan y n d p v t = elim p [ ]
under (inf s) nan n d p v t = elim v [ ]
under (inf s) (inf _) n d p v t = elim v [ ]
under (fin false m e) nan n d p v t = elim v [ ]
under (fin false m e) (inf _) n d p v t = elim v [ ]

above : (z y : Float) (n N d D : ℕ) → sign_plus z → Most N D z → HasValue y false n d → T (le y z) → Least n d z
above (fin true m e) y n N d D p w v t = absurd (true≢false p)
above (fin false m e) (fin true k g) n N d D p w v t = absurd (true≢false v.0)
above (fin false m e) (fin false k g) n N d D p w v t = through n (k * up g) (m * up e) d (down g) (down e) (down_pos g) (le_of_eq (sym v.1)) (ordered k g m e t)
above nan y n N d D p w v t = elim p [ ]
above (inf _) y n N d D p w v t = elim w [ ]
above (fin false m e) nan n N d D p w v t = elim v [ ]
above (fin false m e) (inf _) n N d D p w v t = elim v [ ]

pub most-neg : (n d : ℕ) (z : Float) → Most n d z → Most n d (neg z)
unfolding neg
most-neg n d (fin s m e) w = w
most-neg n d nan w = elim w [ ]
most-neg n d (inf _) w = elim w [ ]

most-plain : (a b n d : ℕ) → 0 < b → 0 < d → Held n d → a * d ≤ n * b → Most n d (round binary64 false a b)
most-plain a b n d h k v l = under (round binary64 false a b) (round binary64 false n d) n d (signed_round binary64 false a b) v (round_mono binary64 a b n d h k l)

pub most-round : (s : Bool) (a b n d : ℕ) → 0 < b → 0 < d → Held n d → a * d ≤ n * b → Most n d (round binary64 s a b)
most-round false a b n d h k v l = most-plain a b n d h k v l
most-round true a b n d h k v l = subst (Most n d) (neg-round binary64 a b) (most-neg n d (round binary64 false a b) (most-plain a b n d h k v l))

pub least-round : (a b n d N D : ℕ) → 0 < b → 0 < d → Held n d → Most N D (round binary64 false a b) → n * b ≤ a * d → Least n d (round binary64 false a b)
least-round a b n d N D h k v w l = above (round binary64 false a b) (round binary64 false n d) n N d D (signed_round binary64 false a b) w v (round_mono binary64 n d a b k h l)

-- ---- a whole number as a float

pub whole-signed : (n : ℕ) → Signed false (of_int binary64 (pos n))
unfolding of_int
whole-signed n = signed_round binary64 false n 1

pub whole-most : (n : ℕ) → n ≤ 2 ^ 53 → Most n 1 (of_int binary64 (pos n))
unfolding of_int
whole-most n h = most-plain n 1 n 1 (lit< tt) (lit< tt) (held_whole n h) (omega arith)

pub whole-least : (n : ℕ) → 0 < n → n ≤ 2 ^ 53 → Least 1 1 (of_int binary64 (pos n))
unfolding of_int
whole-least n h k = least-round n 1 1 1 n 1 (lit< tt) (lit< tt) (held_whole 1 (lit≤ tt)) (whole-most n k) (omega arith)

-- ---- a sign and a bound

-- finite, with the sign s, and of magnitude at most n / d
abbrev pub Sized : Bool → ℕ → ℕ → Float → Type 0
Sized s n d nan = ⊥
Sized s n d (inf t) = ⊥
Sized s n d (fin t m e) = (t ≡ s) × (m * up e * d ≤ n * down e)

pub sized : (s : Bool) (n d : ℕ) (x : Float) → Signed s x → Most n d x → Sized s n d x
sized s n d (fin t m e) p q = (p, q)
sized s n d nan p q = elim p [ ]
sized s n d (inf _) p q = elim q [ ]

pub sized-most : (s : Bool) (n d : ℕ) (x : Float) → Sized s n d x → Most n d x
sized-most s n d (fin t m e) p = p.1
sized-most s n d nan p = elim p [ ]
sized-most s n d (inf _) p = elim p [ ]

pub sized-signed : (s : Bool) (n d : ℕ) (x : Float) → Sized s n d x → Signed s x
sized-signed s n d (fin t m e) p = p.0
sized-signed s n d nan p = elim p [ ]
sized-signed s n d (inf _) p = elim p [ ]

pub most-more : (n k d : ℕ) (x : Float) → n ≤ k → Most n d x → Most k d x
most-more n k d (fin t m e) h p = le_trans p (mul-le-mul_right (down e) h)
most-more n k d nan h p = elim p [ ]
most-more n k d (inf _) h p = elim p [ ]

pub sized-next : (s : Bool) (n k d : ℕ) (x : Float) → n ≤ k → Sized s n d x → Sized s k d x
sized-next s n k d (fin t m e) h p = (p.0, le_trans p.1 (mul-le-mul_right (down e) h))
sized-next s n k d nan h p = elim p [ ]
sized-next s n k d (inf _) h p = elim p [ ]

pub sized-round : (s : Bool) (a b n d : ℕ) → 0 < b → 0 < d → Held n d → a * d ≤ n * b → Sized s n d (round binary64 s a b)
sized-round s a b n d h k v l = sized s n d (round binary64 s a b) (signed_round binary64 s a b) (most-round s a b n d h k v l)

-- ---- bounds by whole numbers, and the values that have them

pub within-most : (n : ℕ) (x : Float) → at_most x n → Most n 1 x
within-most n (fin s m e) w = omega (arith, w)
within-most n nan w = elim w [ ]
within-most n (inf _) w = elim w [ ]

pub most-within : (n : ℕ) (x : Float) → Most n 1 x → at_most x n
most-within n (fin s m e) w = omega (arith, w)
most-within n nan w = elim w [ ]
most-within n (inf _) w = elim w [ ]

pub bounded : (a b n : ℕ) → 0 < b → n ≤ 2 ^ 53 → a ≤ n * b → at_most (round binary64 false a b) n
bounded a b n h k l = most-within n (round binary64 false a b) (most-plain a b n 1 h (lit< tt) (held_whole n k) (le_trans (le_of_eq (mul-one a)) l))

pub whole-sized : (n : ℕ) (x : Float) → Sized false n 1 x → up_to_whole x n
whole-sized n (fin s m e) p = (p.0, omega (arith, p.1))
whole-sized n nan p = elim p [ ]
whole-sized n (inf _) p = elim p [ ]

pub sized-whole : (n : ℕ) (x : Float) → up_to_whole x n → Sized false n 1 x
sized-whole n (fin s m e) p = (p.0, omega (arith, p.1))
sized-whole n nan p = elim p [ ]
sized-whole n (inf _) p = elim p [ ]

-- what lies between 0 and n is finite and not negative
pub whole-not-negative : (n : ℕ) (x : Float) → up_to_whole x n → not_negative x
whole-not-negative n (fin s m e) p = p.0
whole-not-negative n nan p = elim p [ ]
whole-not-negative n (inf _) p = elim p [ ]

pub one-is : one64 ≡ fin false 1 (pos 0)
unfolding of_bits
one-is = refl

pub one-sized : Sized false 1 1 one64
unfolding of_bits
one-sized = (refl, lit≤ tt)

pub two_is : two64 ≡ fin false 1 (pos 1)
unfolding of_bits
two_is = refl

pub two_sized : Sized false 2 1 two64
unfolding of_bits
two_sized = (refl, lit≤ tt)

pub zero-whole : (n : ℕ) → up_to_whole zero64 n
unfolding of_bits
zero-whole n = (refl, omega arith)

-- a value in the domain is at most 2 ^ 20 in magnitude
pub domain-most : (x : Float) → in_domain x ≡ true → Most (2 ^ 20) 1 x
unfolding up_to le lt eq neg of_bits
domain-most nan h = absurd (true≢false (sym h))
domain-most (inf true) h = absurd (true≢false (sym h))
domain-most (inf false) h = absurd (true≢false (sym h))
domain-most (fin true m e) h = ordered-minus 1 (pos 20) m e (passes (le (neg large) (fin true m e)) (and_left (le (neg large) (fin true m e)) (le (fin true m e) large) h))
domain-most (fin false m e) h = ordered m e 1 (pos 20) (passes (le (fin false m e) large) (and_right (le (neg large) (fin false m e)) (le (fin false m e) large) h))

-- at least 0: what is not above 0 is replaced by +0.0
pub above-whole : (n : ℕ) (x : Float) → Most n 1 x → up_to_whole (unless_above zero64 x) n
unfolding unless_above lt of_bits
above-whole n (fin true m e) p = zero-whole n
above-whole n (fin false m e) p = go (lt zero64 (fin false m e))
  where
    go : (b : Bool) → up_to_whole (cond b (fin false m e) zero64) n
    go true = (refl, omega (arith, p))
    go false = zero-whole n
above-whole n nan p = elim p [ ]
above-whole n (inf _) p = elim p [ ]

-- ---- sums

-- two of one sign
sum_alike : (s : Bool) (a b c n d : ℕ) → 0 < c → 0 < d → Held n d → (a + b) * d ≤ n * c → Most n d (sum binary64 s a s b c)
unfolding sum
sum_alike true a b c n d h k v l = most-round true (a + b) c n d h k v l
sum_alike false a b c n d h k v l = most-round false (a + b) c n d h k v l

difference : (a b d x : ℕ) → a * d ≤ b * d + x → (a - b) * d ≤ x
difference a b d x h = rw (mul_comm (a - b) d, mul-sub d a b) (omega (arith, mul_comm d a, mul_comm d b))

-- two of unlike signs: neither is more than n / d above the other
pub sum-apart : (s : Bool) (a b c n d : ℕ) → 0 < c → 0 < d → Held n d → a * d ≤ b * d + n * c → b * d ≤ a * d + n * c → Most n d (sum binary64 s a (not s) b c)
unfolding sum
sum-apart s a b c n d h k v l r = go s
  where
    one : (t u w : Bool) → Most n d (cond w (round binary64 t (b - a) c) (round binary64 u (a - b) c))
    one t u true = most-round t (b - a) c n d h k v (difference b a d (n * c) r)
    one t u false = most-round u (a - b) c n d h k v (difference a b d (n * c) l)

    go : (s : Bool) → Most n d (cond (beq s (not s)) (round binary64 s (a + b) c) (cond (ltb a b) (round binary64 (not s) (b - a) c) (round binary64 (s && ltb b a) (a - b) c)))
    go true = one false (ltb b a) (ltb a b)
    go false = one true false (ltb a b)

-- both with the denominator of the sum
left-part : (M a d E G : ℕ) → M * d ≤ a * E → M * G * d ≤ a * (E * G)
left-part M a d E G h = rw (mul_right_comm M G d, sym (mul_assoc a E G)) (mul-le-mul_right G h)

right-part : (N b d E G : ℕ) → N * d ≤ b * G → N * E * d ≤ b * (E * G)
right-part N b d E G h = rw (mul_comm E G) (left-part N b d G E h)

pub most-add : (a b d : ℕ) (x y : Float) → 0 < d → Held (a + b) d → Most a d x → Most b d y → Most (a + b) d (add binary64 x y)
unfolding add
most-add a b d (fin s m e) (fin t n g) k v p q =
    go s t (left-part (m * up e) a d (down e) (down g) p) (right-part (n * up g) b d (down e) (down g) q)
  where
    go : (s t : Bool) → m * up e * down g * d ≤ a * (down e * down g) → n * up g * down e * d ≤ b * (down e * down g)
        → Most (a + b) d (sum binary64 s (m * up e * down g) t (n * up g * down e) (down e * down g))
    go s t P Q =
        let A = m * up e * down g in
        let B = n * up g * down e in
        let C = down e * down g in
        let h : 0 < C = mul-pos (down_pos e) (down_pos g) in
        let both : A * d + B * d ≤ (a + b) * C = rw (add-mul a b C) (omega (arith, P, Q)) in
        elim s as (λ (u : Bool). Most (a + b) d (sum binary64 u A t B C)) [
          | true ↦ elim t as (λ (u : Bool). Most (a + b) d (sum binary64 true A u B C)) [
            | true ↦ sum_alike true A B C (a + b) d h k v (rw (add-mul A B d) both)
            | false ↦ sum-apart true A B C (a + b) d h k v (omega (arith, both)) (omega (arith, both))
          ]
          | false ↦ elim t as (λ (u : Bool). Most (a + b) d (sum binary64 false A u B C)) [
            | true ↦ sum-apart false A B C (a + b) d h k v (omega (arith, both)) (omega (arith, both))
            | false ↦ sum_alike false A B C (a + b) d h k v (rw (add-mul A B d) both)
          ]
        ]
most-add a b d nan y k v p q = elim p [ ]
most-add a b d (inf _) y k v p q = elim p [ ]
most-add a b d (fin s m e) nan k v p q = elim q [ ]
most-add a b d (fin s m e) (inf _) k v p q = elim q [ ]

pub plain-add : (x y : Float) → sign_plus x → sign_plus y → sign_plus (add binary64 x y)
unfolding add sum
plain-add (inf t) (inf u) p q = rw (p, q) refl
plain-add (inf t) (fin u n g) p q = p
plain-add (fin t m e) (inf u) p q = q
plain-add (fin t m e) (fin u n g) p q = rw (p, q) (signed_round binary64 false (m * up e * down g + n * up g * down e) (down e * down g))
plain-add nan y p q = elim p [ ]
plain-add (inf t) nan p q = elim q [ ]
plain-add (fin t m e) nan p q = elim q [ ]

-- what is taken away is no more than what it is taken from
pub plain-less : (a b c : ℕ) → b ≤ a → sign_plus (sum binary64 false a true b c)
unfolding sum
plain-less a b c h = rw (le-ltb a b h) (signed_round binary64 false (a - b) c)

pub sized-add : (a b d : ℕ) (x y : Float) → 0 < d → Held (a + b) d → Sized false a d x → Sized false b d y → Sized false (a + b) d (add binary64 x y)
sized-add a b d x y k v p q =
    sized false (a + b) d (add binary64 x y) (plain-add x y (sized-signed false a d x p) (sized-signed false b d y q)) (most-add a b d x y k v (sized-most false a d x p) (sized-most false b d y q))

-- ---- products

-- (M / E)·(N / G), where M / E is at most a / c and N / G at most b / d, and their product at most p / q
product : (M E N G a c b d p q : ℕ) → 0 < c → 0 < d → M * c ≤ a * E → N * d ≤ b * G → a * b * q ≤ p * (c * d) → M * N * q ≤ p * (E * G)
product M E N G a c b d p q C D x y l = through (M * N) (a * b) p (E * G) (c * d) q (mul-pos C D) (rw (mul-mul-mul_comm M N c d, mul-mul-mul_comm a b E G) (mul-le-mul x y)) l

pub most-mul : (a c b d p q : ℕ) (x y : Float) → 0 < c → 0 < d → 0 < q → Held p q → a * b * q ≤ p * (c * d) → Most a c x → Most b d y → Most p q (mul binary64 x y)
unfolding mul
most-mul a c b d p q (fin s m e) (fin t n g) C D Q v l x y =
    most-round (unlike s t) (m * up e * (n * up g)) (down e * down g) p q (mul-pos (down_pos e) (down_pos g)) Q v (product (m * up e) (down e) (n * up g) (down g) a c b d p q C D x y l)
most-mul a c b d p q nan _ C D Q v l x y = elim x [ ]
most-mul a c b d p q (inf _) _ C D Q v l x y = elim x [ ]
most-mul a c b d p q (fin s m e) nan C D Q v l x y = elim y [ ]
most-mul a c b d p q (fin s m e) (inf _) C D Q v l x y = elim y [ ]

pub sized-mul : (s t : Bool) (a c b d p q : ℕ) (x y : Float) → 0 < c → 0 < d → 0 < q → Held p q → a * b * q ≤ p * (c * d) → Sized s a c x → Sized t b d y → Sized (unlike s t) p q (mul binary64 x y)
unfolding mul
sized-mul s t a c b d p q (fin u m e) (fin w n g) C D Q v l x y =
    let M = m * up e in
    let N = n * up g in
    subst (λ (z : Bool). Sized z p q (round binary64 (unlike u w) (M * N) (down e * down g))) (λ i. unlike (x.0 i) (y.0 i))
    (sized-round (unlike u w) (M * N) (down e * down g) p q (mul-pos (down_pos e) (down_pos g)) Q v (product M (down e) N (down g) a c b d p q C D x.1 y.1 l))
sized-mul s t a c b d p q nan _ C D Q v l x y = elim x [ ]
sized-mul s t a c b d p q (inf _) _ C D Q v l x y = elim x [ ]
sized-mul s t a c b d p q (fin u m e) nan C D Q v l x y = elim y [ ]
sized-mul s t a c b d p q (fin u m e) (inf _) C D Q v l x y = elim y [ ]

pub least-mul : (a c b d p q n k : ℕ) (x y : Float) → 0 < c → 0 < d → 0 < q → Held p q → p * (c * d) ≤ a * b * q → sign_plus x → sign_plus y → Least a c x →
    Least b d y → Most n k (mul binary64 x y) → Least p q (mul binary64 x y)
unfolding mul
least-mul a c b d p q n k (fin true m e) y C D Q v l s t x z w = absurd (true≢false s)
least-mul a c b d p q n k (fin false m e) (fin true i g) C D Q v l s t x z w = absurd (true≢false t)
least-mul a c b d p q n k (fin false m e) (fin false i g) C D Q v l s t x z w =
    let M = m * up e in
    let N = i * up g in
    least-round (M * N) (down e * down g) p q n k (mul-pos (down_pos e) (down_pos g)) Q v w
    (through p (a * b) (M * N) q (c * d) (down e * down g) (mul-pos C D) l (rw (mul-mul-mul_comm M N c d, mul-mul-mul_comm a b (down e) (down g)) (mul-le-mul x z)))
least-mul a c b d p q n k nan y C D Q v l s t x z w = elim s [ ]
least-mul a c b d p q n k (inf _) y C D Q v l s t x z w = elim x [ ]
least-mul a c b d p q n k (fin false m e) nan C D Q v l s t x z w = elim t [ ]
least-mul a c b d p q n k (fin false m e) (inf _) C D Q v l s t x z w = elim z [ ]

-- ---- quotients

some-digits : (b n d : ℕ) (g : ℤ) → 0 < b → b * down g ≤ n * up g * d → eqb n 0 ≡ false
some-digits b zero d g h l = absurd (lt_irrefl 0 (lt_of_lt_of_le (mul-pos h (down_pos g)) (le_trans l (le_of_eq (ap (λ (x : ℕ). x * d) (zero-mul (up g)) ∙ zero-mul d)))))
some-digits b (suc n) d g h l = ne_eqb (suc n) 0 (λ e. omega arith)

-- (M / E) / (N / G) = (M-as-G) / (N-as-E), where M / E is at most a / c and N / G at least b / d
quotient : (M E N G a c b d : ℕ) → M * c ≤ a * E → b * G ≤ N * d → M * G * (c * b) ≤ a * d * (N * E)
quotient M E N G a c b d h k =
    le_trans (le_of_eq (mul-mul-mul_comm M G c b ∙ ap (λ (x : ℕ). M * c * x) (mul_comm G b)))
    (le_trans (mul-le-mul h k) (le_of_eq (ap (λ (x : ℕ). a * E * x) (mul_comm N d) ∙ mul-mul-mul_comm a E d N ∙ ap (λ (x : ℕ). a * d * x) (mul_comm E N))))

pub sized-div : (s t : Bool) (a c b d p q : ℕ) (x y : Float) → 0 < c → 0 < b → 0 < q → Held p q → a * d * q ≤ p * (c * b) → Sized s a c x → Signed t y →
    Least b d y → Sized (unlike s t) p q (div binary64 x y)
unfolding div
sized-div s t a c b d p q (fin u m e) (fin w n g) C B Q v l x z y =
    let M = m * up e in
    let N = n * up g in
    let bottom : 0 < N * down e = mul-pos (positive N d (lt_of_lt_of_le (mul-pos B (down_pos g)) y)) (down_pos e) in
    rw (some-digits b n d g B y)
    (subst (λ (k : Bool). Sized k p q (round binary64 (unlike u w) (M * down g) (N * down e))) (λ i. unlike (x.0 i) (z i))
    (sized-round (unlike u w) (M * down g) (N * down e) p q bottom Q v (through (M * down g) (a * d) p (N * down e) (c * b) q (mul-pos C B) (quotient M (down e) N (down g) a c b d x.1 y) l)))
  where
    positive : (N d : ℕ) → 0 < N * d → 0 < N
    positive zero d h = absurd (lt_irrefl 0 (subst (λ (x : ℕ). 0 < x) (zero-mul d) h))
    positive (suc N) d h = omega arith
sized-div s t a c b d p q nan _ C B Q v l x z y = elim x [ ]
sized-div s t a c b d p q (inf _) _ C B Q v l x z y = elim x [ ]
sized-div s t a c b d p q (fin u m e) nan C B Q v l x z y = elim z [ ]
sized-div s t a c b d p q (fin u m e) (inf _) C B Q v l x z y = elim y [ ]
